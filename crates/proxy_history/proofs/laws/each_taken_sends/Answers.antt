use Rattle.proxy_history.proofs.sending.SendingLemmas.{each_taken_sends as law}
use Rattle.proxy_history.proofs.laws.each_taken_sends.Goals as goal

pub returns : goal.returns
returns c = law

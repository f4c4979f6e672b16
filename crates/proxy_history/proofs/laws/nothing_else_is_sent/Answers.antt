use Rattle.proxy_history.proofs.sending.SendingLemmas.{nothing_else_is_sent as law}
use Rattle.proxy_history.proofs.laws.nothing_else_is_sent.Goals as goal

pub returns : goal.returns
returns c = law

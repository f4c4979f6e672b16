use Rattle.proxy_history.proofs.sending.SendingLemmas.{upstream_is_what_was_sent as law}
use Rattle.proxy_history.proofs.laws.upstream_is_what_was_sent.Goals as goal

pub returns : goal.returns
returns c = law

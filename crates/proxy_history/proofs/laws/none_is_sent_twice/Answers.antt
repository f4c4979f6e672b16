use Rattle.proxy_history.proofs.sending.SentOnceLemmas.{none_twice}
use Rattle.proxy_history.proofs.laws.none_is_sent_twice.Goals as goal

pub returns : goal.returns
returns c = none_twice

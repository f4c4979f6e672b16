use Rattle.proxy_history.proofs.LimitLemmas.{limits_hold as law}
use Rattle.proxy_history.proofs.laws.limits_hold.Goals as goal

pub returns : goal.returns
returns c = law

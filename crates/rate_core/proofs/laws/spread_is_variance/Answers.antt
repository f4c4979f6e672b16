use Rattle.rate_core.proofs.SpreadLemmas.{spread_is}
use Rattle.rate_core.proofs.laws.spread_is_variance.Goals as goal

pub returns : goal.returns
returns c = spread_is

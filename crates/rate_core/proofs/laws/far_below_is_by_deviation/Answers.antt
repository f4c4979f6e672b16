use Rattle.rate_core.proofs.SpreadLemmas.{far_below_is}
use Rattle.rate_core.proofs.laws.far_below_is_by_deviation.Goals as goal

pub returns : goal.returns
returns c = far_below_is

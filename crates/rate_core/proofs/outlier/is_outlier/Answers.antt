use Rattle.std.proofs.Common.{rules}
use Rattle.rate_core.proofs.outlier.is_outlier.Goals as goal

pub returns : goal.returns
returns c = search rules

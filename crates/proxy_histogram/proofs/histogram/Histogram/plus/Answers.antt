use Rattle.std.proofs.Common.{arith}
use Rattle.std.proofs.lemmas.Grind.{common_steps}
use Rattle.proxy_histogram.proofs.histogram.Histogram.plus.Goals as goal

pub returns : goal.returns
returns c = grind (arith, common_steps)

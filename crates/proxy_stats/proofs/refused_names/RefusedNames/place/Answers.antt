use Rattle.std.proofs.Common.{rules}
use Rattle.proxy_stats.specs.RefusedNames.{placed}
use Rattle.proxy_stats.proofs.refused_names.RefusedNames.place.Goals as goal

pub returns-then-free-lt32 : goal.returns-then-free-lt32
unfolding placed
returns-then-free-lt32 c = search rules

pub returns-else-free-lt32 : goal.returns-else-free-lt32
unfolding placed
returns-else-free-lt32 c = search rules

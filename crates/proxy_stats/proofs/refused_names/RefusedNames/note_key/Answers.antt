use Rattle.std.proofs.Common.{rules}
use Rattle.proxy_stats.specs.RefusedNames.{noted_key}
use Rattle.proxy_stats.proofs.refused_names.RefusedNames.note_key.Goals as goal

pub returns-then-place-lt32 : goal.returns-then-place-lt32
unfolding noted_key
returns-then-place-lt32 c = search rules

pub returns-else-place-lt32 : goal.returns-else-place-lt32
unfolding noted_key
returns-else-place-lt32 c = search rules

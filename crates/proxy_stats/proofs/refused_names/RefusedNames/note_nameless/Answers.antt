use Rattle.std.proofs.Common.{rules}
use Rattle.proxy_stats.specs.RefusedNames.{noted}
use Rattle.proxy_stats.proofs.refused_names.RefusedNames.note_nameless.Goals as goal

pub returns : goal.returns
unfolding noted
returns c = search rules

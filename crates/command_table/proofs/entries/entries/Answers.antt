use Rattle.std.proofs.Common.{refl}
use Rattle.command_table.proofs.entries.entries.Goals as goal

pub returns : goal.returns
returns c = refl

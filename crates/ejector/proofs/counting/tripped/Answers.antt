use Rattle.std.proofs.Common.{rules}
use Rattle.ejector.proofs.counting.tripped.Goals as goal

pub returns-else-may : goal.returns-else-may
returns-else-may c = search rules

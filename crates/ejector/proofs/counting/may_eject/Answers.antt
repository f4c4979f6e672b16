use Rattle.std.proofs.Common.{rules}
use Rattle.ejector.proofs.counting.may_eject.Goals as goal

pub returns-else-out-eq0 : goal.returns-else-out-eq0
returns-else-out-eq0 c = search rules

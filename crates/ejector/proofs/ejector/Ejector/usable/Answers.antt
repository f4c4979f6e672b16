use Rattle.std.proofs.Common.{rules}
use Rattle.ejector.proofs.ejector.Ejector.usable.Goals as goal

pub returns-then-in_panic : goal.returns-then-in_panic
returns-then-in_panic c = search rules

use Rattle.std.proofs.Common.{rules}
use Rattle.sweeper.proofs.pace.Pace.due.Goals as goal

pub returns-then-now-last : goal.returns-then-now-last
returns-then-now-last c = search rules

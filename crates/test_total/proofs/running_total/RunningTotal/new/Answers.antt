use Rattle.std.proofs.Common.{refl}
use Rattle.test_total.proofs.running_total.RunningTotal.new.Goals as goal

pub returns-clause-limit : goal.returns-clause-limit
returns-clause-limit c = refl

use Rattle.std.proofs.Common.{rules}
use Rattle.proxy_core.proofs.machine.Machine.take.Goals as goal

pub returns-clause-done : goal.returns-clause-done
returns-clause-done c = search rules

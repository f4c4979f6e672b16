use Rattle.std.proofs.Common.{rules}
use Rattle.proxy_devices.proofs.faulty.Faulty.write_passed.Goals as goal

pub returns-clause-spent : goal.returns-clause-spent
returns-clause-spent g c = search rules

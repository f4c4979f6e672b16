use Rattle.std.proofs.Common.{rules}
use Rattle.proxy_devices.proofs.faulty.FaultyWrite.write.Goals as goal

pub returns-clause-spent : goal.returns-clause-spent
returns-clause-spent g c = search rules

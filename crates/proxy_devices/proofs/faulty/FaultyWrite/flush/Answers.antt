use Rattle.std.proofs.Common.{refl}
use Rattle.proxy_devices.proofs.faulty.FaultyWrite.flush.Goals as goal

pub returns-clause-same : goal.returns-clause-same
returns-clause-same g c = (refl, refl)

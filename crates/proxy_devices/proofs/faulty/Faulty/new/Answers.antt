use Rattle.std.proofs.Common.{refl}
use Rattle.proxy_devices.proofs.faulty.Faulty.new.Goals as goal

pub returns-clause-left : goal.returns-clause-left
returns-clause-left g c = refl

use Rattle.std.proofs.Common.{rules}
use Rattle.proxy_devices.proofs.faulty.FaultyRead.read.Goals as goal

pub returns-in_err-most-clause-fails : goal.returns-in_err-most-clause-fails
returns-in_err-most-clause-fails g c = search rules

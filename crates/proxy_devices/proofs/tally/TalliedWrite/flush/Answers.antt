use Rattle.std.proofs.Common.{refl}
use Rattle.proxy_devices.proofs.tally.TalliedWrite.flush.Goals as goal

pub returns-clause-counts : goal.returns-clause-counts
returns-clause-counts g c = refl

use Rattle.std.proofs.Common.{rules}
use Rattle.proxy_devices.proofs.tally.TalliedReadTally.read_told.Goals as goal

pub returns-in-Ok-eq0 : goal.returns-in-Ok-eq0
returns-in-Ok-eq0 g c = search rules

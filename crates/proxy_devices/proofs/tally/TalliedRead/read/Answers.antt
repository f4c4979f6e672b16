use Rattle.std.proofs.Common.{rules}
use Rattle.proxy_devices.proofs.tally.TalliedRead.read.Goals as goal

pub returns-in-Err-clause-counts : goal.returns-in-Err-clause-counts
returns-in-Err-clause-counts g c = search rules

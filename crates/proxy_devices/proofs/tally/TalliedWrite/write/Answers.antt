use Rattle.std.proofs.Common.{rules}
use Rattle.proxy_devices.proofs.tally.TalliedWrite.write.Goals as goal

pub returns-then-not-is_empty-clause-counts : goal.returns-then-not-is_empty-clause-counts
returns-then-not-is_empty-clause-counts g c = search rules

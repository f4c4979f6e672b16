use Rattle.std.proofs.Common.{rules}
use Rattle.proxy_stats.proofs.tally.Counts.add_trip.Goals as goal

pub returns-in-Kept : goal.returns-in-Kept
returns-in-Kept c = search rules

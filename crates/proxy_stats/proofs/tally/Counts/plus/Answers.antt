use Rattle.std.proofs.Common.{rules}
use Rattle.proxy_stats.proofs.tally.Counts.plus.Goals as goal

pub returns : goal.returns
returns c = search rules

use Rattle.std.proofs.Common.{rules}
use Rattle.proxy_stats.proofs.tally.Counts.add.Goals as goal

pub returns-clause-grown : goal.returns-clause-grown
returns-clause-grown c = search rules

use Rattle.proxy_stats.proofs.AddLemmas.{added_law}
use Rattle.proxy_stats.proofs.laws.sums_are_counted.Goals as goal

pub returns : goal.returns
returns c = added_law

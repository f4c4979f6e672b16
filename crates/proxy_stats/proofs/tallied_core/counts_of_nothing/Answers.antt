use Rattle.proxy_stats.proofs.CountLemmas.{kept_at_first}
use Rattle.proxy_stats.proofs.tallied_core.counts_of_nothing.Goals as goal

pub returns : goal.returns
returns c = kept_at_first

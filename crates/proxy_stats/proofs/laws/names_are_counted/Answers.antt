use Rattle.proxy_stats.proofs.RefusedNamesLemmas.{names_law}
use Rattle.proxy_stats.proofs.laws.names_are_counted.Goals as goal

pub returns : goal.returns
returns c = names_law

use Rattle.proxy_stats.proofs.RefusalLemmas.{refused_count}
use Rattle.proxy_stats.proofs.laws.names_are_of_refusals.Goals as goal

pub returns : goal.returns
returns c = refused_count

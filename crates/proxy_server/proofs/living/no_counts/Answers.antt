use Rattle.proxy_server.proofs.CountSumLemmas.{no_sums}
use Rattle.proxy_server.proofs.living.no_counts.Goals as goal

pub returns : goal.returns
returns c = no_sums

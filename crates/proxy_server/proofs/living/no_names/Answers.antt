use Rattle.proxy_server.proofs.NameSumLemmas.{no_sums}
use Rattle.proxy_server.proofs.living.no_names.Goals as goal

pub returns : goal.returns
returns c = no_sums

use Rattle.proxy_server.proofs.LookSumLemmas.{no_looks}
use Rattle.proxy_server.proofs.look_sum.no_look.Goals as goal

pub returns : goal.returns
returns c = no_looks

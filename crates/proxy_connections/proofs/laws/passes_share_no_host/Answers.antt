use Rattle.proxy_connections.proofs.AssignedLemmas.{passes_share_no_host as law}
use Rattle.proxy_connections.proofs.laws.passes_share_no_host.Goals as goal

pub returns : goal.returns
returns c = law

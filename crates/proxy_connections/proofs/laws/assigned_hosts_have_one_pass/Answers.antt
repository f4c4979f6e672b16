use Rattle.proxy_connections.proofs.AssignedLemmas.{assigned_hosts_have_one_pass as law}
use Rattle.proxy_connections.proofs.laws.assigned_hosts_have_one_pass.Goals as goal

pub returns : goal.returns
returns c = law

use Rattle.proxy_connections.proofs.WorkerPlaces.{hosts_have_their_workers as law}
use Rattle.proxy_connections.proofs.laws.hosts_have_their_workers.Goals as goal

pub returns : goal.returns
returns c = law

use Rattle.proxy_connections.specs.WorkerConnections.{RiseTo}
use Rattle.proxy_connections.proofs.worker_connections.hosts_of.Given as goal

abbrev pub invariant-loop-host : goal.invariant-loop-host
invariant-loop-host l = RiseTo l.place l.fn.setup.config.now.hosts.items l.hosts.items l.host

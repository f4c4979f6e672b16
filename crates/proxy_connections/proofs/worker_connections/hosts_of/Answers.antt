use Rattle.proxy_connections.proofs.WorkerConnectionLemmas.{rises_empty}
use Rattle.proxy_connections.proofs.worker_connections.hosts_of.Goals as goal

pub loop-host-init : goal.loop-host-init
loop-host-init c = rises_empty _ c.new-hosts.ensures.items

pub loop-host-preserved : goal.loop-host-preserved
loop-host-preserved c = c.in_ok-push_host.ensures c.loop-host.invariant

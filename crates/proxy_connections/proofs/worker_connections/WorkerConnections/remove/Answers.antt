use Rattle.proxy_connections.proofs.WorkerConnectionLemmas.{serves_removed}
use Rattle.proxy_connections.proofs.worker_connections.WorkerConnections.remove.Goals as goal

pub invariant_of-self : goal.invariant_of-self
invariant_of-self c = serves_removed _ _ _ _ _ c.try_remove.ensures.updates c.self.invariant

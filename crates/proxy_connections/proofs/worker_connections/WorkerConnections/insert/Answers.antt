use Rattle.proxy_connections.proofs.WorkerConnectionLemmas.{has_come, serves_inserted}
use Rattle.proxy_connections.proofs.worker_connections.WorkerConnections.insert.Goals as goal

pub invariant_of-self : goal.invariant_of-self
invariant_of-self c =
    serves_inserted _ _ _ _ _ _ c.insert_reserved-key.ensures.updates c.insert_reserved-key.ensures.was_vacant (rw c.begin_input.ensures (rw (← c.self.view_is) at c.requires.newcomer)) c.self.invariant

pub returns-clause-there : goal.returns-clause-there
returns-clause-there c = rw (← c.self.view_is) (has_come _ _ _ _ c.insert_reserved-key.ensures.key c.insert_reserved-key.ensures.updates)

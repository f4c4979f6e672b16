use Rattle.std.proofs.Common.{sym}
use Rattle.proxy_connections.proofs.WorkerConnectionLemmas.{are_of_pass, carries_its_socket, may_go_over, serves_removed}
use Rattle.proxy_connections.proofs.worker_connections.WorkerConnections.carry.Goals as goal

pub carry-requires-clause-carries : goal.carry-requires-clause-carries
carry-requires-clause-carries c =
    carries_its_socket _ _ _ c.in-Some.client _ (sym c.in-Some.ensures.value) (are_of_pass c.self.inside.turns.turns c.self.inside.turns.is_legal) c.self.invariant

pub carry-requires-clause-may : goal.carry-requires-clause-may
carry-requires-clause-may c =
    let (client, there, may) = rw (← c.self.view_is) at c.requires in
    may_go_over _ c.in-Some.client client (sym c.in-Some.ensures.value) there may

pub invariant_of-self : goal.invariant_of-self
invariant_of-self c = serves_removed _ _ _ _ _ c.try_remove.ensures.updates c.self.invariant

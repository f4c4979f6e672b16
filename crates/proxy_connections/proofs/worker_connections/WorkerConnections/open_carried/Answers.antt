use Rattle.proxy_connections.proofs.WorkerConnectionLemmas.{adds_opened, is_newcomer, serves_beside}
use Rattle.proxy_connections.proofs.worker_connections.WorkerConnections.open_carried.Goals as goal

pub invariant_of-self : goal.invariant_of-self
invariant_of-self g c = serves_beside _ _ _ _ _ c.in-Ok.ensures.ok c.self.invariant

pub insert-requires-clause-newcomer : goal.insert-requires-clause-newcomer
insert-requires-clause-newcomer g c = is_newcomer _ _ _ _ _ c.in-Ok.ensures.ok c.self.invariant

pub returns-in-Ok-clause-adds : goal.returns-in-Ok-clause-adds
returns-in-Ok-clause-adds g c =
    rw (← c.self.view_is)
    (adds_opened _ _ c.insert.ensures.same.0 c.insert.ensures.same.1 c.insert.ensures.hosts c.insert.ensures.stay c.in-Ok.client.engine _ c.in-Ok.ensures.ok c.insert.ensures.steps)

pub insert-requires-clause-room : goal.insert-requires-clause-room
insert-requires-clause-room g c = rw (← c.self.view_is) at c.requires

pub returns-in-Ok-clause-there : goal.returns-in-Ok-clause-there
returns-in-Ok-clause-there g c = rw (← c.self.view_is) c.insert.ensures.there

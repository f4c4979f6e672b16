use Rattle.std.proofs.Common.{sym}
use Rattle.proxy_connections.proofs.WorkerConnectionLemmas.{changes_same, serves_same}
use Rattle.proxy_connections.proofs.worker_connections.WorkerConnections.count_no_memory.Goals as goal

pub invariant_of-self-2 : goal.invariant_of-self-2
invariant_of-self-2 c = serves_same _ _ _ c.in-Some.client.now _ _ (sym c.in-Some.ensures.value) c.count_no_memory.ensures.engine c.self.invariant

pub returns : goal.returns
returns c = rw (← c.self.view_is) (changes_same _ _ _ c.in-Some.client.now _ _ (sym c.in-Some.ensures.value) c.count_no_memory.ensures.engine)

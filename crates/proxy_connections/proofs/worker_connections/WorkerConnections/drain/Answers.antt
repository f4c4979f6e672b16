use Rattle.std.proofs.Common.{sym}
use Rattle.proxy_connections.proofs.WorkerConnectionLemmas.{changes_drained, serves_drained}
use Rattle.proxy_connections.proofs.worker_connections.WorkerConnections.drain.Goals as goal

pub invariant_of-self-2 : goal.invariant_of-self-2
invariant_of-self-2 c = serves_drained _ _ _ c.in-Some.client.now _ _ (sym c.in-Some.ensures.value) c.drain.ensures.engine c.self.invariant

pub returns : goal.returns
returns c = rw (← c.self.view_is) (changes_drained _ _ _ c.in-Some.client.now _ _ (sym c.in-Some.ensures.value) c.drain.ensures.engine)

use Rattle.std.proofs.Common.{sym}
use Rattle.proxy_connections.proofs.WorkerConnectionLemmas.{changes_passed, serves_passed}
use Rattle.proxy_connections.proofs.worker_connections.WorkerConnections.shut_down.Goals as goal

pub invariant_of-self-2 : goal.invariant_of-self-2
invariant_of-self-2 c = serves_passed _ _ _ c.in-Some.client.now _ _ (sym c.in-Some.ensures.value) c.shut_down.ensures.engine c.self.invariant

pub returns : goal.returns
returns c = rw (← c.self.view_is) (changes_passed _ _ _ c.in-Some.client.now _ _ (sym c.in-Some.ensures.value) c.shut_down.ensures.engine)

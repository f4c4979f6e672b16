use Rattle.std.proofs.Common.{refl, sym}
use Rattle.proxy_connections.proofs.WorkerConnectionLemmas.{changes_client, changes_same, lets_go, serves_same, serves_stepped}
use Rattle.proxy_connections.proofs.worker_connections.WorkerConnections.step_client.Goals as goal

pub invariant_of-self-then-not-may_go : goal.invariant_of-self-then-not-may_go
invariant_of-self-then-not-may_go g c = serves_same _ _ _ c.in-Some.client.now _ _ (sym c.in-Some.ensures.value) refl c.self.invariant

pub returns-then-not-may_go-clause-changes : goal.returns-then-not-may_go-clause-changes
returns-then-not-may_go-clause-changes g c = rw (← c.self.view_is) (changes_same _ _ _ c.in-Some.client.now _ _ (sym c.in-Some.ensures.value) refl)

pub invariant_of-self-2 : goal.invariant_of-self-2
invariant_of-self-2 g c = serves_stepped _ _ _ c.in-Some.client.now _ _ _ (sym c.in-Some.ensures.value) c.self.invariant c.run_once-stepped.ensures.keeps

pub returns-clause-changes : goal.returns-clause-changes
returns-clause-changes g c = rw (← c.self.view_is) (changes_client _ _ _ c.in-Some.client.now _ _ _ (sym c.in-Some.ensures.value) c.run_once-stepped.ensures.keeps)

pub returns-clause-leaves : goal.returns-clause-leaves
returns-clause-leaves g c = lets_go _ _ c.in-Some.client.now _ (sym c.in-Some.ensures.value) _ c.run_once-stepped.ensures.closed c.run_once-stepped.ensures.carried

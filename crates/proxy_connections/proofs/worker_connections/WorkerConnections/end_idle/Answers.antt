use Rattle.std.proofs.Common.{refl, sym}
use Rattle.proxy_connections.proofs.IdleLemmas.{has_idle}
use Rattle.proxy_connections.proofs.WorkerConnectionLemmas.{changes_same, serves_same}
use Rattle.proxy_connections.proofs.worker_connections.WorkerConnections.end_idle.Goals as goal

pub invariant_of-self-then-is_idle : goal.invariant_of-self-then-is_idle
invariant_of-self-then-is_idle c = serves_same _ _ _ c.in-Some.client.now _ _ (sym c.in-Some.ensures.value) c.end_idle.ensures.engine c.self.invariant

pub invariant_of-self-else-is_idle : goal.invariant_of-self-else-is_idle
invariant_of-self-else-is_idle c = serves_same _ _ _ c.in-Some.client.now _ _ (sym c.in-Some.ensures.value) refl c.self.invariant

pub returns-then-is_idle-clause-changes : goal.returns-then-is_idle-clause-changes
returns-then-is_idle-clause-changes c = rw (← c.self.view_is) (changes_same _ _ _ c.in-Some.client.now _ _ (sym c.in-Some.ensures.value) c.end_idle.ensures.engine)

pub returns-then-is_idle-clause-ends : goal.returns-then-is_idle-clause-ends
returns-then-is_idle-clause-ends c = rw (← c.self.view_is) (has_idle c.args.round.now c.args.round.idle_ms c.args.key c.self.inside.clients c.in-Some.client.now (sym c.in-Some.ensures.value) c.is_idle-is_idle.result c.is_idle-is_idle.ensures)

pub returns-else-is_idle-clause-changes : goal.returns-else-is_idle-clause-changes
returns-else-is_idle-clause-changes c = rw (← c.self.view_is) (changes_same _ _ _ c.in-Some.client.now _ _ (sym c.in-Some.ensures.value) refl)

pub returns-else-is_idle-clause-ends : goal.returns-else-is_idle-clause-ends
returns-else-is_idle-clause-ends c = rw (← c.self.view_is) (has_idle c.args.round.now c.args.round.idle_ms c.args.key c.self.inside.clients c.in-Some.client.now (sym c.in-Some.ensures.value) c.is_idle-is_idle.result c.is_idle-is_idle.ensures)

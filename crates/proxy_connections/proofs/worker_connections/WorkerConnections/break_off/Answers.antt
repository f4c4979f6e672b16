use Rattle.std.proofs.Common.{sym}
use Rattle.proxy_connections.proofs.WorkerConnectionLemmas.{changes_passed, has_failed, serves_passed}
use Rattle.proxy_connections.proofs.worker_connections.WorkerConnections.break_off.Goals as goal

pub invariant_of-self-2 : goal.invariant_of-self-2
invariant_of-self-2 c = serves_passed _ _ _ c.in-Some.client.now _ _ (sym c.in-Some.ensures.value) c.break_off.ensures.engine c.self.invariant

pub returns-clause-changes : goal.returns-clause-changes
returns-clause-changes c = rw (← c.self.view_is) (changes_passed _ _ _ c.in-Some.client.now _ _ (sym c.in-Some.ensures.value) c.break_off.ensures.engine)

pub returns-clause-failed : goal.returns-clause-failed
returns-clause-failed c = has_failed c.self.inside.clients c.args.key c.in-Some.client.now c.break_off.new.self (sym c.in-Some.ensures.value) c.break_off.ensures.failed

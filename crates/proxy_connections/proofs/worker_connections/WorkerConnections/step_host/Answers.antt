use Rattle.proxy_connections.proofs.WorkerConnectionLemmas.{changes_host, changes_same_host, serves_host}
use Rattle.proxy_connections.proofs.worker_connections.WorkerConnections.step_host.Goals as goal

pub returns-then-not-may_go : goal.returns-then-not-may_go
returns-then-not-may_go g c = rw (← c.self.view_is) (changes_same_host _ _ _ c.in-Some.host.now _ c.in-Some.ensures.item.3.0 c.in-Some.ensures.value)

pub invariant_of-self-2 : goal.invariant_of-self-2
invariant_of-self-2 g c =
    serves_host _ _ _ c.in-Some.host.now c.run_once-stepped.new.self _ _ c.in-Some.ensures.item.3.0 c.in-Some.ensures.value c.run_once-stepped.ensures.keeps c.run_once-stepped.ensures.address c.self.invariant

pub returns : goal.returns
returns g c =
    rw (← c.self.view_is)
    (changes_host _ _ _ c.in-Some.host.now c.run_once-stepped.new.self _ _ c.in-Some.ensures.item.3.0 c.in-Some.ensures.value c.run_once-stepped.ensures.keeps)

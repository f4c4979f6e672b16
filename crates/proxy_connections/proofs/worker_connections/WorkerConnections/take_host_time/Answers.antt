use Rattle.proxy_connections.proofs.SocketLemmas.{KeepsHost-same}
use Rattle.proxy_connections.proofs.WorkerConnectionLemmas.{changes_host, serves_host}
use Rattle.proxy_connections.proofs.worker_connections.WorkerConnections.take_host_time.Goals as goal

pub invariant_of-self-2 : goal.invariant_of-self-2
invariant_of-self-2 c =
    serves_host _ _ _ c.in-Some.host.now c.take_time.new.self _ _ c.in-Some.ensures.item.3.0 c.in-Some.ensures.value
    (rw c.take_time.ensures.engine (KeepsHost-same _ _)) c.take_time.ensures.address c.self.invariant

pub returns : goal.returns
returns c =
    rw (← c.self.view_is)
    (changes_host _ _ _ c.in-Some.host.now c.take_time.new.self _ _ c.in-Some.ensures.item.3.0 c.in-Some.ensures.value
    (rw c.take_time.ensures.engine (KeepsHost-same _ _)))

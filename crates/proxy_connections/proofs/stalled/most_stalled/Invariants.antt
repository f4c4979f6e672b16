use Rattle.proxy_connections.specs.WorkerConnections.{IsMostBelow}
use Rattle.proxy_connections.proofs.stalled.most_stalled.Given as goal

abbrev pub invariant-loop-key : goal.invariant-loop-key
invariant-loop-key l = IsMostBelow l.fn.now l.fn.clients l.key l.most

use Rattle.std.proofs.Common.{◌+◌, ◌%◌, ap}
use Rattle.proxy_serve_core.specs.RoundRobin.{RoundRobinState}
use Rattle.proxy_serve_core.proofs.round_robin.RoundRobin.take.Goals as goal

pub returns-clause-next : goal.returns-clause-next
returns-clause-next c = ap (λ (t : RoundRobinState). (t.next + 1) % t.count) c.self.view_is

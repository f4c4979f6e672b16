use Rattle.std.proofs.Common.{refl}
use Rattle.proxy_serve_core.proofs.round_robin.RoundRobin.new.Goals as goal

pub returns-clause-next : goal.returns-clause-next
returns-clause-next c = refl

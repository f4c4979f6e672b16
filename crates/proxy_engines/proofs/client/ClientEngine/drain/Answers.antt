use Rattle.proxy_engines.proofs.ClientMoves.{drained_carries}
use Rattle.proxy_engines.proofs.client.ClientEngine.drain.Goals as goal

pub returns-clause-carries : goal.returns-clause-carries
returns-clause-carries g c = λ H taken b k. drained_carries _ H taken b (rw (← c.self.view_is) at k)

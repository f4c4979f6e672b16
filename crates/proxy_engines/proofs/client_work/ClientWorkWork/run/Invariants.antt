use Rattle.std.proofs.Common.{None}
use Rattle.proxy_engines.specs.Client.{Goes, HasNoFault}
use Rattle.proxy_engines.specs.Moves.{AsTold}
use Rattle.proxy_engines.specs.Turns.{KeepsTurns, own_history}
use Rattle.proxy_engines.proofs.client_work.ClientWorkWork.run.Given as goal

abbrev pub invariant-loop : goal.invariant-loop
invariant-loop g l =
    AsTold (Goes l.fn.self.engine l.self.engine (own_history (g.T.Turns.facts l.fn.self.turns))
    (own_history (g.T.Turns.facts l.self.turns))) None
    × KeepsTurns (g.T.Turns.facts l.fn.self.turns) (g.T.Turns.facts l.self.turns)
    × HasNoFault l.fn.self.engine l.self.engine

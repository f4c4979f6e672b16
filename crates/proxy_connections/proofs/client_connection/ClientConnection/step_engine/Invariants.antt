use Rattle.std.specs.Prelude.{◌≡◌}
use Rattle.proxy_engines.specs.Keeps.{KeepsSocket}
use Rattle.proxy_engines.specs.Turns.{own_history}
use Rattle.proxy_connections.specs.declared.stage.SocketStage.{SocketStage}
use Rattle.proxy_connections.proofs.client_connection.ClientConnection.step_engine.Given as goal

abbrev pub invariant-loop : goal.invariant-loop
invariant-loop g l =
    KeepsSocket l.fn.self.engine l.self.engine (own_history (g.T.Turns.facts l.fn.turns.turns)) (own_history (g.T.Turns.facts l.turns.turns))
    × (l.self.stage ≡ SocketStage.Served)

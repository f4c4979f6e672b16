use Rattle.std.specs.Prelude.{◌≡◌}
use Rattle.proxy_engines.specs.HostStep.{ends_of}
use Rattle.proxy_engines.specs.Turns.{own_history}
use Rattle.proxy_connections.specs.Sockets.{KeepsHost}
use Rattle.proxy_connections.proofs.host_connection.HostConnection.send_all.Given as goal

abbrev pub invariant-loop : goal.invariant-loop
invariant-loop g l =
    KeepsHost (ends_of l.fn.self.engine) (ends_of l.self.engine) (own_history (g.T.Turns.facts l.fn.turns.turns)) (own_history (g.T.Turns.facts l.turns.turns))
    × (l.self.link ≡ l.fn.self.link)

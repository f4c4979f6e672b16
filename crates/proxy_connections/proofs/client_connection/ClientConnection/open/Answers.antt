use Rattle.std.proofs.Common.{ap}
use Rattle.proxy_engines.specs.Logs.{Logs}
use Rattle.proxy_connections.proofs.SocketLemmas.{opens_socket}
use Rattle.proxy_connections.proofs.client_connection.ClientConnection.open.Goals as goal

pub returns-clause-ok : goal.returns-clause-ok
returns-clause-ok g c =
    rw c.new-2.ensures.engine
    (opens_socket _ _ _ _ _ _ c.in_ok-engine.engine c.in_ok-engine.ensures.opened c.in_ok-engine.ensures.carries
    (ap (λ (l : Logs). l.told) c.in-Ok.ensures.logs) (ap (λ (l : Logs). l.taken) c.in-Ok.ensures.logs))

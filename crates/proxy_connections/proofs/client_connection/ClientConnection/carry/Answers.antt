use Rattle.proxy_connections.proofs.SocketLemmas.{leaves_socket}
use Rattle.proxy_connections.proofs.client_connection.ClientConnection.carry.Goals as goal

pub invariant_of-result : goal.invariant_of-result
invariant_of-result c =
    leaves_socket c.args.self.engine c.in-Some.rest _ _ c.requires.carries c.in-Some.ensures.left c.in-Some.ensures.logs.0 c.in-Some.ensures.logs.1

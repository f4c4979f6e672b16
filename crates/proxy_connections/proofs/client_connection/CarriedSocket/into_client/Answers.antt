use Rattle.std.proofs.Common.{ap, refl}
use Rattle.socket_halves.specs.SocketReader.{SocketReaderState}
use Rattle.socket_halves.specs.SocketWriter.{SocketWriterState}
use Rattle.socket_halves.specs.WriteBuffer.{accepted}
use Rattle.proxy_connections.proofs.SocketLemmas.{reopens_socket}
use Rattle.proxy_connections.proofs.client_connection.CarriedSocket.into_client.Goals as goal

pub returns-in-Ok-clause-ok : goal.returns-in-Ok-clause-ok
returns-in-Ok-clause-ok g c =
    rw c.new-client.ensures.engine
    (reopens_socket _ _ _ _ _ _ c.in-Ok.engine c.in-Ok.ensures.opened _ _ _ refl c.in-Ok.ensures.carries
    (ap (λ (r : SocketReaderState). r.end.delivered) c.set_readable.ensures)
    (ap (λ (w : SocketWriterState). accepted w.output) c.set_writable.ensures)
    c.self.invariant)

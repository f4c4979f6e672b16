use Rattle.std.proofs.Common.{true, ap}
use Rattle.socket_halves.specs.WriteBuffer.{WriteBufferState}
use Rattle.socket_halves.proofs.write_buffer.WriteBuffer.set_writable.Goals as goal

pub returns : goal.returns
returns g c = ap (λ (o : WriteBufferState). record o { is_writable = true }) c.self.view_is

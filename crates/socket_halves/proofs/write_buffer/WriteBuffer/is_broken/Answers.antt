use Rattle.std.proofs.Common.{ap}
use Rattle.socket_halves.specs.WriteBuffer.{WriteBufferState}
use Rattle.socket_halves.proofs.write_buffer.WriteBuffer.is_broken.Goals as goal

pub returns : goal.returns
returns g c = ap (λ (o : WriteBufferState). o.is_broken) c.self.view_is

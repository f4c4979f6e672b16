use Rattle.std.proofs.Common.{true, ap}
use Rattle.socket_halves.specs.WriteBuffer.{WriteBufferState}
use Rattle.socket_halves.proofs.write_buffer.WriteBuffer.break_off.Goals as goal

pub returns : goal.returns
returns g c = ap (λ (o : WriteBufferState). record o { is_broken = true }) c.self.view_is

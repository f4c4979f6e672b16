use Rattle.std.proofs.Common.{◌==◌, ap}
use Rattle.socket_halves.proofs.write_buffer.WriteBuffer.is_empty.Goals as goal

pub returns : goal.returns
returns g c = ap (λ n. n == 0) c.count.ensures

use Rattle.std.proofs.Common.{rules}
use Rattle.socket_halves.proofs.write_buffer.WriteBuffer.may_write.Goals as goal

pub returns-then-not-self : goal.returns-then-not-self
returns-then-not-self g c = search rules

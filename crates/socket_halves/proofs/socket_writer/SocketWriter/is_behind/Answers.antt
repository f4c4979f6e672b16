use Rattle.std.proofs.Common.{arith}
use Rattle.std.proofs.lemmas.Grind.{common_steps}
use Rattle.socket_halves.proofs.socket_writer.SocketWriter.is_behind.Goals as goal

pub returns-then-self : goal.returns-then-self
returns-then-self g c = grind (arith, common_steps)

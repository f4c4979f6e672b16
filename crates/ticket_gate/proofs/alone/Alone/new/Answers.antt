use Rattle.std.proofs.Common.{refl}
use Rattle.ticket_gate.proofs.alone.Alone.new.Goals as goal

pub returns : goal.returns
returns g c = refl

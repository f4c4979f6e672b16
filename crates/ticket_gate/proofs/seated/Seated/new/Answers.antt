use Rattle.std.proofs.Common.{rules}
use Rattle.ticket_gate.proofs.seated.Seated.new.Goals as goal

pub returns : goal.returns
returns g c = search rules

use Rattle.std.proofs.Common.{sym, ap}
use Rattle.ticket_gate.specs.Refusal.{turn_number}
use Rattle.ticket_gate.proofs.refusal.TurnRefusal.number.Goals as goal

pub returns-in-Spent : goal.returns-in-Spent
returns-in-Spent g c = ap turn_number (sym c.in-Spent.is)

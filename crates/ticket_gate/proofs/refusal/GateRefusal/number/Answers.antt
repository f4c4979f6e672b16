use Rattle.std.proofs.Common.{sym, ap}
use Rattle.ticket_gate.specs.Refusal.{gate_number}
use Rattle.ticket_gate.proofs.refusal.GateRefusal.number.Goals as goal

pub returns-in-Crowded : goal.returns-in-Crowded
returns-in-Crowded c = ap gate_number (sym c.in-Crowded.is)

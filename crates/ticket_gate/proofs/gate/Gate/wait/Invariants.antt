use Rattle.std.proofs.Common.{◌≡◌, ◌≤◌}
use Rattle.ticket_gate.specs.Visit.{HoldsTicket}
use Rattle.ticket_gate.proofs.gate.Gate.wait.Given as goal

abbrev pub invariant-loop : goal.invariant-loop
invariant-loop g l = (l.seat.table_id ≡ l.initial.seat.table_id) × HoldsTicket l.initial.seat.me.0.own l.fn.ticket l.seat × (l.looks ≤ 10)

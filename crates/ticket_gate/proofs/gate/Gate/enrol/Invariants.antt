use Rattle.std.proofs.Common.{◌≡◌}
use Rattle.ticket_gate.specs.Gate.{IsAtRest, HasNoNumber}
use Rattle.ticket_gate.proofs.gate.Gate.enrol.Given as goal

abbrev pub invariant-loop : goal.invariant-loop
invariant-loop g l = (l.seat.table_id ≡ l.initial.seat.table_id) × IsAtRest l.seat × HasNoNumber l.seat × (l.seat.me.0.own.setting ≡ l.initial.seat.me.0.own.setting)

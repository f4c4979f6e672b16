use Rattle.std.proofs.Common.{◌≡◌}
use Rattle.ticket_gate.specs.Gate.{IsAtRest}
use Rattle.ticket_gate.specs.Visit.{KeepsSeen}
use Rattle.ticket_gate.proofs.gate.Gate.enter_soon.Given as goal

abbrev pub invariant-loop-looks : goal.invariant-loop-looks
invariant-loop-looks g l = (l.seat.table_id ≡ l.initial.seat.table_id) × IsAtRest l.seat × KeepsSeen l.initial.seat.me.0.own l.seat.me.0.own

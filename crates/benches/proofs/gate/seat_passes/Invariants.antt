use Rattle.ticket_gate.specs.Gate.{IsSpareOf}
use Rattle.benches.proofs.gate.seat_passes.Given as goal

abbrev pub invariant-loop : goal.invariant-loop
invariant-loop g l = IsSpareOf l.gate l.spare

use Rattle.ticket_gate.specs.Gate.{IsSpareOf}
use Rattle.test_components.proofs.gate_limits.fill.Given as goal

abbrev pub invariant-loop-number : goal.invariant-loop-number
invariant-loop-number g l = IsSpareOf l.gate l.spare

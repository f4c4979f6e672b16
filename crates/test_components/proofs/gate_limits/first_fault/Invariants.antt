use Rattle.ticket_gate.specs.Gate.{IsPassOf}
use Rattle.test_components.proofs.gate_limits.first_fault.Given as goal

abbrev pub invariant-loop-place : goal.invariant-loop-place
invariant-loop-place g l = IsPassOf l.gate l.one × IsPassOf l.gate l.other

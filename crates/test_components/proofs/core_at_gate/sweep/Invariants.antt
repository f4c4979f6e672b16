use Rattle.ticket_gate.specs.Gate.{IsPassOf}
use Rattle.test_components.proofs.core_at_gate.sweep.Given as goal

abbrev pub invariant-loop-t : goal.invariant-loop-t
invariant-loop-t g l = IsPassOf l.gate l.pass

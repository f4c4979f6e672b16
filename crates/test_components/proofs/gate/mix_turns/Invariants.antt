use Rattle.std.proofs.Common.{◌≤◌}
use Rattle.ticket_gate.specs.Gate.{IsPassOf}
use Rattle.test_components.proofs.gate.mix_turns.Given as goal

abbrev pub invariant-loop-amount : goal.invariant-loop-amount
invariant-loop-amount g l = (l.answered ≤ l.amount) × IsPassOf l.gate l.pass

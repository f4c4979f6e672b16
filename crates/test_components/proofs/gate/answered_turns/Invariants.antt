use Rattle.std.proofs.Common.{◌≤◌, ◌≡◌}
use Rattle.test_components.proofs.gate.answered_turns.Given as goal

abbrev pub invariant-loop-amount : goal.invariant-loop-amount
invariant-loop-amount g l = (l.answered ≤ l.amount) × ((g.T.Turns.facts l.turns).home ≡ (g.T.Turns.facts l.initial.turns).home)

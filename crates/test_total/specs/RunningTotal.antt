-- What contracts see of a running total.
use Rattle.std.specs.Prelude.{ℕ, ◌+◌, ◌<◌, List}
use Rattle.journal_core.specs.declared.step.Step.{Step as StepOf}
use Rattle.test_total.specs.declared.running_total.RunningTotal.{RunningTotal}
use Rattle.test_total.specs.declared.running_total.AdditionRefusal.{AdditionRefusal}
use Rattle.test_total.specs.declared.running_total.AdditionRefusal.TheVariants.{PastLimit, NoMemory}
use Rattle.test_total.specs.Totals.{amount_sum}

-- the journal of the running total
abbrev pub journal_of : RunningTotal → List (StepOf ℕ ℕ)
journal_of state = state.steps.items

-- the limit of the running total
abbrev pub limit_of : RunningTotal → ℕ
limit_of state = state.limit

-- the amount would take the total past the limit; no journal says when memory runs out
abbrev pub IsDue : ℕ → AdditionRefusal → ℕ → List (StepOf ℕ ℕ) → Type 0
IsDue limit PastLimit amount journal = limit < amount_sum journal + amount
IsDue limit NoMemory amount journal = Unit {0}

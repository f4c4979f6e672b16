-- What contracts see of a journal, and its limits.
use Rattle.std.specs.Prelude.{◌≡◌, ◌⊎◌, ◌+◌, ◌<◌, ◌≤◌, ℕ, Bool, true, List, Option, Some, None, length}
use Rattle.limits.specs.declared.journals.TheConstants.{MAX_STEPS, MAX_BYTES}
use Rattle.journal_core.specs.Kept.{KeptState}
use Rattle.journal_core.specs.declared.step.Step.{Step}

-- the step of a pass: its number, the event and the answer
abbrev pub step_by : {E A : Type 0} → ℕ → E → A → Step E A
step_by pass event answer = record { pass = pass; event = event; answer = answer }

-- the steps, the oldest first; the bytes of payload that they hold; and the bytes of the step for which room was made,
-- where room was made and no step was added since; and whether all steps are kept
pub record JournalState (E A : Type 0) : Type 0 where
  pub steps : List (Step E A)
  pub bytes : ℕ
  pub room : Option ℕ
  pub records : Bool

-- one more step with this many bytes of payload would pass a limit
abbrev pub IsFull : {E A : Type 0} → JournalState E A → ℕ → Type 0
IsFull journal bytes = (MAX_STEPS ≤ length journal.steps) ⊎ (MAX_BYTES < journal.bytes + bytes)

-- so many steps with so many bytes of payload pass no limit
abbrev pub IsWithinLimits : ℕ → ℕ → Type 0
IsWithinLimits steps bytes = (steps ≤ MAX_STEPS) × (bytes ≤ MAX_BYTES)

-- where room was made, there is a place for a step, and with one more step no limit is passed
abbrev pub HasRoom : {X : Type 0} → KeptState X → ℕ → Option ℕ → Type 0
HasRoom steps bytes None = Unit {0}
HasRoom steps bytes (Some more) =
    (steps.has_room ≡ true) × IsWithinLimits (length steps.items + 1) (bytes + more)

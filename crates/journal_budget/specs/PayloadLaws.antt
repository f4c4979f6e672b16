-- What follows of the payload of a journal.
use Rattle.std.specs.Prelude.{◌≤◌, ◌*◌, ℕ, List, sum_by}
use Rattle.limits.specs.declared.journals.TheConstants.{MAX_STEPS}
use Rattle.journal_budget.specs.declared.payload.TheConstants.{MAX_ERROR_BYTES, MAX_PART_ERROR}
use Rattle.journal_budget.specs.declared.step_kind.StepKind.{StepKind}
use Rattle.journal_budget.specs.declared.step_kind.StepKind.TheVariants.{Accepted}
use Rattle.journal_budget.specs.Steps.{cost}

-- the most bytes of errors in the places of all parts of a command
abbrev pub error_bytes : StepKind → ℕ
error_bytes (Accepted parts) = parts * MAX_PART_ERROR
error_bytes _ = 0

-- Where what these steps cost fits a journal, the errors of all their parts fit what is kept for errors.
abbrev pub ErrorsFit : Type 0
ErrorsFit = (ks : List StepKind) → cost ks ≤ MAX_STEPS → sum_by error_bytes ks ≤ MAX_ERROR_BYTES

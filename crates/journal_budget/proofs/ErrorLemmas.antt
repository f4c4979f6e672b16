-- Errors of parts, against what their steps cost.
use Rattle.std.proofs.Common.{◌≤◌, ◌*◌, zero, suc, List, [], ◌∷◌, arith}
use Rattle.std.specs.Prelude.{sum_by}
use Rattle.std.proofs.lemmas.List.Sums.{sum_by-cons}
use Rattle.limits.specs.declared.journals.TheConstants.{MAX_STEPS}
use Rattle.journal_budget.specs.declared.payload.TheConstants.{MAX_ERROR_BYTES}
use Rattle.journal_budget.specs.declared.step_kind.StepKind.{StepKind}
use Rattle.journal_budget.specs.declared.step_kind.StepKind.TheVariants.{Opened, Accepted, Sent, Matched, Lost, Handed, Finished, Closed, Swept}
use Rattle.journal_budget.specs.Steps.{cost, cost_of}
use Rattle.journal_budget.specs.PayloadLaws.{error_bytes}

-- 16 bytes a step are enough
few_a_step : (k : StepKind) → error_bytes k ≤ 16 * cost_of k
few_a_step Opened = omega arith
few_a_step (Accepted parts) = omega arith
few_a_step Sent = omega arith
few_a_step Matched = omega arith
few_a_step (Lost zero) = omega arith
few_a_step (Lost (suc parts)) = omega arith
few_a_step Handed = omega arith
few_a_step Finished = omega arith
few_a_step Closed = omega arith
few_a_step Swept = omega arith

few_together : (ks : List StepKind) → sum_by error_bytes ks ≤ 16 * cost ks
few_together [] = omega arith
few_together (k ∷ ks) = omega (arith, few_a_step k, few_together ks, sum_by-cons error_bytes k ks, sum_by-cons cost_of k ks)

pub errors_fit : (ks : List StepKind) → cost ks ≤ MAX_STEPS → sum_by error_bytes ks ≤ MAX_ERROR_BYTES
errors_fit ks fits = omega (arith, few_together ks, fits)

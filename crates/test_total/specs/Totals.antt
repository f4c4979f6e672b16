-- Journals of a running total. The event of a step is the amount, its answer the total that it came to.
use Rattle.std.specs.Prelude.{◌≡◌, ℕ, ◌+◌, ◌≤◌, List, [], ◌∷◌, ◌++◌, sum_by}
use Rattle.std.proofs.Common.{ap, ◌∙◌, append_assoc}
use Rattle.journal_core.specs.declared.step.Step.{Step as StepOf}

-- the sum of all amounts
abbrev pub amount_sum : List (StepOf ℕ ℕ) → ℕ
amount_sum journal = sum_by (λ step. step.event) journal

-- the total of each step is the sum of all amounts up to its own, and within the limit
pub record AreTotals (limit : ℕ) (journal : List (StepOf ℕ ℕ)) : Type 0 where
  pub each_total : (before after : List (StepOf ℕ ℕ)) (step : StepOf ℕ ℕ)
      → journal ≡ before ++ step ∷ after
      → (step.answer ≡ amount_sum before + step.event) × (step.answer ≤ limit)

-- an empty journal has no step
pub nothing_in_empty : {X : Type 0} (before after : List X) (x : X) → [] ≡ before ++ x ∷ after → ⊥
nothing_in_empty [] after x e = cc
nothing_in_empty (b ∷ bs) after x e = cc

-- the totals of an empty journal are right
pub totals_at_first : (limit : ℕ) → AreTotals limit []
totals_at_first limit =
    record { each_total = λ before after step is. absurd (nothing_in_empty before after step is) }

-- the totals of a beginning are right where those of the whole are
pub totals_before : (limit : ℕ) (journal more : List (StepOf ℕ ℕ))
    → AreTotals limit (journal ++ more) → AreTotals limit journal
totals_before limit journal more totals =
    record {
      each_total = λ before after step is.
          totals.each_total before (after ++ more) step
          (ap (λ l. l ++ more) is ∙ append_assoc before (step ∷ after) more);
    }

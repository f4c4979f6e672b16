-- A running total with one more addition.
use Rattle.std.proofs.Common.{◌≡◌, ◌⊎◌, ℕ, ◌+◌, ◌≤◌, List, [], ◌∷◌, ◌++◌, refl, sym, ap, ◌∙◌, inl, inr, ⊎_elim, arith}
use Rattle.journal_core.specs.declared.step.Step.{Step as StepOf}
use Rattle.test_total.specs.Totals.{AreTotals, amount_sum, nothing_in_empty}

-- an element of a list with one more stands in the list, or is the last
last_or_before : {X : Type 0} (xs : List X) (x : X) (before after : List X) (y : X) → xs ++ x ∷ [] ≡ before ++ y ∷ after → ((before ≡ xs) × (y ≡ x)) ⊎ ((rest : List X) × (xs ≡ before ++ y ∷ rest))
last_or_before [] x [] after y e = inl (refl, cc)
last_or_before [] x (b ∷ bs) after y e = let tails : [] ≡ bs ++ y ∷ after = cc in absurd (nothing_in_empty bs after y tails)
last_or_before (z ∷ zs) x [] after y e = inr (zs, cc)
last_or_before {X} (z ∷ zs) x (b ∷ bs) after y e =
    let heads : z ≡ b = cc in
    let tails : zs ++ x ∷ [] ≡ bs ++ y ∷ after = cc in
    ⊎_elim (λ (h : (bs ≡ zs) × (y ≡ x)). inl (let same = h.0 in cc, h.1)) (λ (h : (rest : List X) × (zs ≡ bs ++ y ∷ rest)). inr (h.0, let same = h.1 in cc)) (last_or_before zs x bs after y tails)

pub totals-push : (limit : ℕ) (journal : List (StepOf ℕ ℕ)) (step : StepOf ℕ ℕ) → step.answer ≡ amount_sum journal + step.event → step.answer ≤ limit → AreTotals limit journal → AreTotals limit (journal ++ step ∷ [])
totals-push limit journal step total within totals = record {
  each_total = λ before after s is. ⊎_elim
      (λ (h : (before ≡ journal) × (s ≡ step)). let a = h.0 in let b = h.1 in (ap (λ (z : StepOf ℕ ℕ). z.answer) b ∙ total ∙ ap (λ n. n + step.event) (ap amount_sum (sym a)) ∙ ap (λ n. amount_sum before + n) (ap (λ (z : StepOf ℕ ℕ). z.event) (sym b)), let e : s.answer ≡ step.answer = ap (λ (z : StepOf ℕ ℕ). z.answer) b in omega arith))
      (λ (h : (rest : List (StepOf ℕ ℕ)) × (journal ≡ before ++ s ∷ rest)). totals.each_total before h.0 s h.1)
      (last_or_before journal step before after s is);
}

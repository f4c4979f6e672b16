-- Members of what a filter keeps of the numbers of a range.
use Rattle.std.proofs.Common.{◌≡◌, ℕ, zero, suc, ◌+◌, ◌<◌, ◌≤◌, Bool, false, filter, refl, inl, inr, arith}
use Rattle.std.specs.List.{range_with_len}
use Rattle.std.proofs.lemmas.Bool.{cases_Bool, cases_eq, eq-eqb, ne_eqb}
use Rattle.ejector.specs.Deeds.{is_among}

-- a number below the range is none of them
among_before : (p : ℕ → Bool) (h a n : ℕ) → h < a → is_among h (filter p (range_with_len a n)) ≡ false
among_before p h a zero l = refl
among_before p h a (suc n) l =
    let other : a ≡ h → ⊥ = λ e. absurd (omega arith) in
    let rest = among_before p h (a + 1) n (omega arith) in
    elim (cases_Bool (p a)) [
      | inl t ↦ rw (t, ne_eqb a h other, rest) refl
      | inr f ↦ rw (f, rest) refl
    ]

-- a number of the range is one of them where it passes
pub among_filter : (p : ℕ → Bool) (h a n : ℕ) → a ≤ h → h < a + n → is_among h (filter p (range_with_len a n)) ≡ p h
among_filter p h a zero l u = absurd (omega arith)
among_filter p h a (suc n) l u = elim (cases_eq a h) [
  | inl e ↦ (let rest = among_before p h (a + 1) n (omega arith) in
      elim (cases_Bool (p a)) [
        | inl t ↦ rw (t, eq-eqb a h e, ← e, t) refl
        | inr f ↦ rw (f, rest, ← e, f) refl
      ])
  | inr o ↦ (let rest = among_filter p h (a + 1) n (omega arith) (omega arith) in
      elim (cases_Bool (p a)) [
        | inl t ↦ rw (t, ne_eqb a h o, rest) refl
        | inr f ↦ rw (f, rest) refl
      ])
]

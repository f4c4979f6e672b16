-- Where an element stands that is so many places from the first.
use Rattle.std.proofs.Common.{◌≡◌, ◌≢◌, ◌<◌, ◌≤◌, ◌+◌, ◌-◌, ◌/◌, ◌%◌, ◌∙◌, ℕ, zero, suc, List, [], ◌∷◌, ◌++◌, length, Some, None, refl, sym, ap, append_assoc, append-nil, inl, inr, arith}
use Rattle.std.specs.Prelude.{slice_get, flat_map}
use Rattle.std.proofs.lemmas.Bool.{cases_lt}
use Rattle.std.proofs.lemmas.Option.{slice_get_past}
use Rattle.std.proofs.lemmas.List.Concat.{flat_map-append}
use Rattle.std.proofs.Math.Nat.{div-eq_of_lt, mod-eq_of_lt, div-eq-sub-div, mod-eq-sub-mod}
use Rattle.journal_core.specs.Blocks.{AreFull}

module _ {X : Type 0} where
  slice_get-left : (xs ys : List X) (i : ℕ) → i < length xs → slice_get (xs ++ ys) i ≡ slice_get xs i
  slice_get-left [] ys i l = absurd (omega (arith, l))
  slice_get-left (x ∷ xs) ys zero l = refl
  slice_get-left (x ∷ xs) ys (suc i) l = slice_get-left xs ys i (omega (arith, l))

  slice_get-right : (xs ys : List X) (i j : ℕ) → i ≡ length xs + j → slice_get (xs ++ ys) i ≡ slice_get ys j
  slice_get-right [] ys i j e = ap (slice_get ys) (omega (arith, e))
  slice_get-right (x ∷ xs) ys zero j e = absurd (omega (arith, e))
  slice_get-right (x ∷ xs) ys (suc i) j e = slice_get-right xs ys i j (omega (arith, e))

  slice_get-behind : (x : X) (xs : List X) (i j : ℕ) → i ≡ j + 1 → slice_get (x ∷ xs) i ≡ slice_get xs j
  slice_get-behind x xs zero j e = absurd (omega (arith, e))
  slice_get-behind x xs (suc i) j e = ap (slice_get xs) (omega (arith, e))

module _ {V X : Type 0} (items : V → List X) (count : ℕ) (positive : 0 < count) where
  not_found : (w : V) (vs : List V) → slice_get (w ∷ vs) 0 ≡ None → ⊥
  not_found w vs is = cc

  -- in the first block
  here : (v : V) (vs : List V) (last : List X) (i : ℕ) → length (items v) ≡ count → i < count
      → slice_get (flat_map items (v ∷ vs) ++ last) i ≡ slice_get (items v) (i % count)
  here v vs last i e l =
      ap (λ l. slice_get l i) (append_assoc (items v) (flat_map items vs) last)
      ∙ slice_get-left (items v) (flat_map items vs ++ last) i (omega (arith, e, l))
      ∙ ap (slice_get (items v)) (sym (mod-eq_of_lt l))

  -- behind it
  there : (v : V) (vs : List V) (last : List X) (i : ℕ) → length (items v) ≡ count → count ≤ i
      → slice_get (flat_map items (v ∷ vs) ++ last) i ≡ slice_get (flat_map items vs ++ last) (i - count)
  there v vs last i e l =
      ap (λ l. slice_get l i) (append_assoc (items v) (flat_map items vs) last)
      ∙ slice_get-right (items v) (flat_map items vs ++ last) i (i - count) (omega (arith, e, l))

  -- the first block is found for it
  first : (w : V) (vs : List V) (last : List X) (v : V) (i : ℕ) → length (items w) ≡ count → i < count → slice_get (w ∷ vs) 0 ≡ Some v
      → slice_get (flat_map items (w ∷ vs) ++ last) i ≡ slice_get (items v) (i % count)
  first w vs last v i e l is = let same : w ≡ v = cc in here w vs last i e l ∙ ap (λ z. slice_get (items z) (i % count)) same

  pub slice_get-full : (vs : List V) (last : List X) (v : V) (i : ℕ) → AreFull items count vs → slice_get vs (i / count) ≡ Some v
      → slice_get (flat_map items vs ++ last) i ≡ slice_get (items v) (i % count)
  slice_get-full [] last v i full is = cc
  slice_get-full (w ∷ vs) last v i (e, full) is = elim (cases_lt i count) [
    | inl l ↦ first w vs last v i e l (ap (slice_get (w ∷ vs)) (sym (div-eq_of_lt l)) ∙ is)
    | inr g ↦
        there w vs last i e g
        ∙ slice_get-full vs last v (i - count) full (sym (slice_get-behind w vs _ _ (div-eq-sub-div positive g)) ∙ is)
        ∙ ap (slice_get (items v)) (sym (mod-eq-sub-mod g))
  ]

  pub slice_get-last : (vs : List V) (last : List X) (i : ℕ) → AreFull items count vs → i / count ≡ length vs
      → slice_get (flat_map items vs ++ last) i ≡ slice_get last (i % count)
  slice_get-last [] last i full is = elim (cases_lt i count) [
    | inl l ↦ ap (slice_get last) (sym (mod-eq_of_lt l))
    | inr g ↦ absurd (omega (arith, is, div-eq-sub-div positive g))
  ]
  slice_get-last (w ∷ vs) last i (e, full) is = elim (cases_lt i count) [
    | inl l ↦ absurd (omega (arith, is, div-eq_of_lt l))
    | inr g ↦
        there w vs last i e g
        ∙ slice_get-last vs last (i - count) full (omega (arith, is, div-eq-sub-div positive g))
        ∙ ap (slice_get last) (sym (mod-eq-sub-mod g))
  ]

  pub slice_get-past : (vs : List V) (last : List X) (i : ℕ) → AreFull items count vs → length last ≤ count
      → slice_get vs (i / count) ≡ None → i / count ≢ length vs → slice_get (flat_map items vs ++ last) i ≡ None
  slice_get-past [] last i full short none other = elim (cases_lt i count) [
    | inl l ↦ absurd (other (div-eq_of_lt l))
    | inr g ↦ slice_get_past last i (omega (arith, short, g))
  ]
  slice_get-past (w ∷ vs) last i (e, full) short none other = elim (cases_lt i count) [
    | inl l ↦ absurd (not_found w vs (ap (slice_get (w ∷ vs)) (sym (div-eq_of_lt l)) ∙ none))
    | inr g ↦
        there w vs last i e g
        ∙ slice_get-past vs last (i - count) full short (sym (slice_get-behind w vs _ _ (div-eq-sub-div positive g)) ∙ none)
        (λ same. other (omega (arith, same, div-eq-sub-div positive g)))
  ]

-- one full block more
pub AreFull-push : {V X : Type 0} (items : V → List X) (count : ℕ) (vs : List V) (v : V) → AreFull items count vs → length (items v) ≡ count
    → AreFull items count (vs ++ v ∷ [])
AreFull-push items count [] v full e = (e, tt)
AreFull-push items count (w ∷ vs) v (f, full) e = (f, AreFull-push items count vs v full e)

-- the elements of a block more
pub flat_map-push : {V X : Type 0} (items : V → List X) (vs : List V) (v : V) → flat_map items (vs ++ v ∷ []) ++ [] ≡ flat_map items vs ++ items v
flat_map-push items vs v =
    append-nil (flat_map items (vs ++ v ∷ [])) ∙ flat_map-append items vs (v ∷ [])
    ∙ ap (λ z. flat_map items vs ++ z) (append-nil (items v))

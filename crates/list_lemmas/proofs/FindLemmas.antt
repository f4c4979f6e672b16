-- What is found in two lists side by side.
use Rattle.std.proofs.Common.{◌≡◌, Bool, true, false, List, [], ◌∷◌, length, drop, find, zip, Some, None, refl, inl, inr}
use Rattle.std.specs.List.{list_any}
use Rattle.std.proofs.lemmas.Bool.{cases_Bool, or_parts}

-- where none passes none is found
pub find-zip_none : {X Y : Type 0} (test : X → Bool) (xs : List X) (ys : List Y) → list_any test xs ≡ false → find (λ (r : X × Y). test r.0) (zip xs ys) ≡ None
find-zip_none test [] ys e = refl
find-zip_none test (x ∷ xs) [] e = refl
find-zip_none test (x ∷ xs) (y ∷ ys) e =
    let a = or_parts (test x) (list_any test xs) e in
    rw a.0 (find-zip_none test xs ys a.1)

-- who passes and isn't found stands behind those that have a partner
pub list_any-unfound : {X Y : Type 0} (test : X → Bool) (xs : List X) (ys : List Y) → find (λ (r : X × Y). test r.0) (zip xs ys) ≡ None
    → list_any test xs ≡ true → list_any test (drop (length ys) xs) ≡ true
list_any-unfound test [] ys e t = absurd cc
list_any-unfound test (x ∷ xs) [] e t = t
list_any-unfound test (x ∷ xs) (y ∷ ys) e t = elim (cases_Bool (test x)) [
  | inl here ↦ let f : Some (x, y) ≡ None = rw here at e in absurd (cc f)
  | inr not_here ↦ list_any-unfound test xs ys (rw not_here at e) (rw not_here at t)
]

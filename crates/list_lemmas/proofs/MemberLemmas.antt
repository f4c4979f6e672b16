-- Members of lists.
use Rattle.std.proofs.Common.{◌≡◌, ◌⊎◌, ◌<◌, ℕ, zero, suc, List, [], ◌∷◌, ◌++◌, drop, get_or, Some, Contains, slice_get, refl, ap, ◌∙◌, inl, inr, arith}
use Rattle.std.proofs.lemmas.List.Elements.{Contains-append_cases, Contains-append_right}
use Rattle.std.proofs.lemmas.Option.{slice_get-get_or}

-- nothing is in the empty list
pub Contains-nil : {X : Type 0} (x : X) → Contains [] x → ⊥
Contains-nil x h = omega (arith, h.1)

-- the first item is a member
pub Contains-first : {X : Type 0} (x : X) (xs : List X) → Contains (x ∷ xs) x
Contains-first x xs = (0, omega arith, refl)

-- and so are the others
pub Contains-later : {X : Type 0} (x : X) (xs : List X) (y : X) → Contains xs y → Contains (x ∷ xs) y
Contains-later x xs y h = Contains-append_right (x ∷ []) xs y h

only_one : {X : Type 0} (x y : X) (k : ℕ) → k < 1 → get_or (x ∷ []) k y ≡ y → x ≡ y
only_one x y zero l e = e
only_one x y (suc k) l e = absurd (omega (arith, l))

-- a member is the first item or one of the others
pub Contains-cases : {X : Type 0} (x : X) (xs : List X) (y : X) → Contains (x ∷ xs) y → (x ≡ y) ⊎ Contains xs y
Contains-cases x xs y h = elim (Contains-append_cases (x ∷ []) xs y h) [
  | inl one ↦ let (k, within, is) = one in inl (only_one x y k within is)
  | inr more ↦ inr more
]

-- the place of a member
pub slice_get-member : {X : Type 0} (xs : List X) (x : X) → Contains xs x → (k : ℕ) × (slice_get xs k ≡ Some x)
slice_get-member xs x (k, within, is) = (k, slice_get-get_or xs k x within ∙ ap Some is)

-- what stands behind the first items is a member
pub Contains-drop : {X : Type 0} (n : ℕ) (xs : List X) (x : X) → Contains (drop n xs) x → Contains xs x
Contains-drop zero xs x h = h
Contains-drop (suc n) [] x h = h
Contains-drop (suc n) (y ∷ xs) x h = Contains-later y xs x (Contains-drop n xs x h)

-- what a list has at a place it has there when it has grown
pub slice_get-append : {X : Type 0} (xs ys : List X) (i : ℕ) (x : X) → slice_get xs i ≡ Some x → slice_get (xs ++ ys) i ≡ Some x
slice_get-append [] ys i x e = absurd cc
slice_get-append (a ∷ xs) ys zero x e = e
slice_get-append (a ∷ xs) ys (suc i) x e = slice_get-append xs ys i x e

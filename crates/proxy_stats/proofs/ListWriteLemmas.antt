-- Lists that are written place by place.
use Rattle.std.proofs.Common.{ℕ, ◌+◌, ◌<◌, List, length, get_or, set, sym, subst, inl, inr, arith, All, reverse, [], ◌∷◌, ◌++◌}
use Rattle.std.proofs.lemmas.Bool.{cases_eq}
use Rattle.std.proofs.lemmas.List.{get_or-set_same, get_or-set_other, get_or_append_left, length-append, reverse-append}
use Rattle.std.proofs.lemmas.List.Elements.{All-cons}
use Rattle.std.proofs.Math.Seq.{get_or-append_seam}

-- what holds of each place so far, and of what is written at the next, holds after the write
pub written_more : {X : Type 0} (P : ℕ → X → Type 0) (xs : List X) (i : ℕ) (x : X) → i < length xs → ((k : ℕ) (d : X) → k < i → P k (get_or xs k d)) → P i x
    → (k : ℕ) (d : X) → k < i + 1 → P k (get_or (set xs i x) k d)
written_more {X} P xs i x within before here k d below = elim (cases_eq k i) [
  | inl same ↦
      let Q : ℕ → Type 0 = λ j. P j (get_or (set xs i x) j d) in
      let R : X → Type 0 = P i in
      subst Q (sym same) (subst R (sym (get_or-set_same xs i x d within)) here)
  | inr other ↦
      let R : X → Type 0 = P k in
      subst R (sym (get_or-set_other xs i k x d other)) (before k d (omega arith))
]

all_front : {X : Type 0} (P : X → Type 0) (xs ys : List X) → All P (xs ++ ys) → All P xs
all_front P xs ys h = λ k d l. subst P (get_or_append_left xs ys d k l) (h k d (omega (arith, length-append xs ys, l)))

all_last : {X : Type 0} (P : X → Type 0) (xs : List X) (x : X) → All P (xs ++ x ∷ []) → P x
all_last P xs x h = subst P (get_or-append_seam xs x [] x) (h (length xs) x (omega (arith, length-append xs (x ∷ []))))

-- what holds of each element of a list read backwards holds of each of the list
pub all_forwards : {X : Type 0} (P : X → Type 0) (xs : List X) → All P (reverse xs) → All P xs
all_forwards P [] h = λ k d l. absurd (omega arith)
all_forwards P (x ∷ xs) h =
    let g : All P (reverse xs ++ x ∷ []) = rw (← reverse-append (x ∷ []) xs) h in
    All-cons P x xs (all_last P (reverse xs) x g) (all_forwards P xs (all_front P (reverse xs) (x ∷ []) g))

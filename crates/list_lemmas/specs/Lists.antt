-- Words on lists.
use Rattle.std.specs.Prelude.{ℕ, zero, suc, Option, Some, None, List, [], ◌∷◌, ◌++◌, map, take, drop}
use Rattle.std.specs.List.{range_with_len}

-- the list with the item in this place changed
abbrev pub changed_at : {X : Type 0} → (X → X) → ℕ → List X → List X
changed_at change place [] = []
changed_at change zero (x ∷ xs) = change x ∷ xs
changed_at change (suc place) (x ∷ xs) = x ∷ changed_at change place xs

-- the list with its first items changed, so many of them
abbrev pub mapped_to : {X : Type 0} → (X → X) → ℕ → List X → List X
mapped_to change count xs = map change (take count xs) ++ drop count xs

-- the list with its first items made from their places, so many of them
abbrev pub made_to : {X : Type 0} → (ℕ → X) → ℕ → List X → List X
made_to made count xs = map made (range_with_len 0 count) ++ drop count xs

-- what there is, as a list
abbrev pub list_of : {X : Type 0} → Option X → List X
list_of None = []
list_of (Some x) = x ∷ []

-- What contracts see of a list in blocks, and what its blocks are.
use Rattle.std.specs.Prelude.{◌≡◌, ℕ, Bool, List, [], ◌∷◌, length}

-- the elements, and whether there is a place for one more
pub record BlocksState (X : Type 0) : Type 0 where
  pub items : List X
  pub has_room : Bool

-- each of the blocks has so many elements
abbrev pub AreFull : {V X : Type 0} → (V → List X) → ℕ → List V → Type 0
AreFull items count [] = Unit {0}
AreFull items count (block ∷ blocks) = (length (items block) ≡ count) × AreFull items count blocks

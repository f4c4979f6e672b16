-- What contracts see of a list of which all elements are kept, or only the newest.
use Rattle.std.specs.Prelude.{◌≡◌, ◌-◌, Bool, true, List, Option, Some, None, length, slice_get}
use Rattle.journal_core.specs.Blocks.{BlocksState}

-- the elements; whether there is a place for one more; and whether all are kept
pub record KeptState (X : Type 0) : Type 0 where
  pub items : List X
  pub has_room : Bool
  pub is_whole : Bool

-- there is always a place where only the newest is kept
abbrev pub room_in : {X : Type 0} → Option (BlocksState X) → Bool
room_in None = true
room_in (Some blocks) = blocks.has_room

-- what is kept of these elements: all in blocks, or the newest
abbrev pub AreKept : {X : Type 0} → Option (BlocksState X) → Option X → List X → Type 0
AreKept None newest items = slice_get items (length items - 1) ≡ newest
AreKept (Some blocks) newest items = blocks.items ≡ items

-- What holds of owners on every ring.
use Rattle.std.specs.Prelude.{◌≡◌, ◌≢◌, ◌↔◌, ℕ, Bool, true, false, Option, Some, List, length, replicate, slice_set, Contains}
use Rattle.ketama.specs.Owner.{is_usable, IsOwner, owner_of}

-- the usable hosts without one of them
abbrev pub usable_without : List Bool → ℕ → List Bool
usable_without usable host = slice_set usable host false

-- as many hosts, all usable
abbrev pub all_usable : List Bool → List Bool
all_usable usable = replicate (length usable) true

-- `owner_of` is the owner, and there is no other
pub record OwnerIsOne (pairs : List (ℕ × ℕ)) (point : ℕ) (usable : List Bool) : Type 0 where
  pub owner : IsOwner pairs point usable (owner_of pairs point usable)
  pub only : (answer : Option ℕ) → IsOwner pairs point usable answer → answer ≡ owner_of pairs point usable

-- where a host goes out, the points of all others stay where they are
abbrev pub OthersKeepTheirPoints : Type 0
OthersKeepTheirPoints = (pairs : List (ℕ × ℕ)) (point : ℕ) (usable : List Bool) (host : ℕ)
    → owner_of pairs point usable ≢ Some host
    → owner_of pairs point (usable_without usable host) ≡ owner_of pairs point usable

-- where the owner among all hosts is usable, it is the owner, whichever others are out
abbrev pub FirstChoiceStands : Type 0
FirstChoiceStands = (pairs : List (ℕ × ℕ)) (point : ℕ) (usable : List Bool) (host : ℕ)
    → owner_of pairs point (all_usable usable) ≡ Some host → is_usable usable host ≡ true
    → owner_of pairs point usable ≡ Some host

-- rings with the same pairs, in whatever order and number, have the same owners
abbrev pub OwnersGoByMembers : Type 0
OwnersGoByMembers = (pairs others : List (ℕ × ℕ)) (point : ℕ) (usable : List Bool)
    → ((pair : ℕ × ℕ) → Contains pairs pair ↔ Contains others pair)
    → owner_of others point usable ≡ owner_of pairs point usable

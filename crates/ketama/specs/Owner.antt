-- Which host owns a point of a ring. A pair is a point and the host that it belongs to. What is said
-- here of a list of pairs depends on its members alone, not on their order nor on how often one is
-- there. A list of `Bool` says of each host whether it is usable.
use Rattle.std.specs.Prelude.{◌≡◌, ℕ, ◌<◌, ◌≤◌, nat_lt, nat_le, Bool, true, false, ◌==◌, ◌&&◌, ◌||◌, if◌then◌else◌, Option, Some, None, List, [], ◌∷◌, filter, slice_index_or, Contains, ◌⊎◌}
use Rattle.std.specs.Option.{option_map}

-- whether the host is usable; one past the end of the list is not
abbrev pub is_usable : List Bool → ℕ → Bool
is_usable usable host = slice_index_or usable host false

-- the pair is in the list, and its host is usable
pub record IsUsablePair (pairs : List (ℕ × ℕ)) (usable : List Bool) (pair : ℕ × ℕ) : Type 0 where
  pub member : Contains pairs pair
  pub host_usable : is_usable usable pair.1 ≡ true

-- such a pair at the point or above it
pub record IsUsablePairFrom (pairs : List (ℕ × ℕ)) (point : ℕ) (usable : List Bool) (pair : ℕ × ℕ) : Type 0 where
  pub at_or_above : point ≤ pair.0
  pub usable_pair : IsUsablePair pairs usable pair

-- pair a is pair b or comes before it, by point and then by host
abbrev pub IsAtOrBefore : ℕ × ℕ → ℕ × ℕ → Type 0
IsAtOrBefore a b = (a.0 < b.0) ⊎ ((a.0 ≡ b.0) × (a.1 ≤ b.1))

-- of the pairs of some kind this is the least
pub record IsLeast (Kind : ℕ × ℕ → Type 0) (least : ℕ × ℕ) : Type 0 where
  pub kind : Kind least
  pub first : (pair : ℕ × ℕ) → Kind pair → IsAtOrBefore least pair

-- no pair is of the kind
abbrev pub HasNone : (ℕ × ℕ → Type 0) → Type 0
HasNone Kind = (pair : ℕ × ℕ) → ¬ Kind pair

-- the least pair of the kind, or none where there is none
abbrev pub IsLeastIfAny : (ℕ × ℕ → Type 0) → Option (ℕ × ℕ) → Type 0
IsLeastIfAny Kind None = HasNone Kind
IsLeastIfAny Kind (Some pair) = IsLeast Kind pair

-- the host owns the point: it has the least usable pair at the point or above, or, where there is none
-- there, the least usable pair of all
abbrev pub Owns : List (ℕ × ℕ) → ℕ → List Bool → ℕ → Type 0
Owns pairs point usable host = (at : ℕ) ×
    (IsLeast (IsUsablePairFrom pairs point usable) (at, host)
    ⊎ (HasNone (IsUsablePairFrom pairs point usable) × IsLeast (IsUsablePair pairs usable) (at, host)))

-- the host that owns the point, or none, exactly where no usable host has a point
abbrev pub IsOwner : List (ℕ × ℕ) → ℕ → List Bool → Option ℕ → Type 0
IsOwner pairs point usable None = HasNone (IsUsablePair pairs usable)
IsOwner pairs point usable (Some host) = Owns pairs point usable host

-- ---- the same as a function

-- the lesser of a pair and another, if there is another
abbrev pub lesser_pair : ℕ × ℕ → Option (ℕ × ℕ) → ℕ × ℕ
lesser_pair pair None = pair
lesser_pair pair (Some other) =
    if nat_lt other.0 pair.0 || (other.0 == pair.0 && nat_lt other.1 pair.1) then other else pair

-- the least pair of a list
abbrev pub least_of : List (ℕ × ℕ) → Option (ℕ × ℕ)
least_of [] = None
least_of (pair ∷ pairs) = Some (lesser_pair pair (least_of pairs))

-- the usable pairs of a list, and those of them at the point or above
abbrev pub usable_pairs : List (ℕ × ℕ) → List Bool → List (ℕ × ℕ)
usable_pairs pairs usable = filter (λ pair. is_usable usable pair.1) pairs

-- the pairs of usable hosts from a point on
abbrev pub usable_pairs_from : List (ℕ × ℕ) → ℕ → List Bool → List (ℕ × ℕ)
usable_pairs_from pairs point usable = filter (λ pair. nat_le point pair.0) (usable_pairs pairs usable)

-- the first if it is there, else the second
abbrev pub first_of : Option (ℕ × ℕ) → Option (ℕ × ℕ) → Option (ℕ × ℕ)
first_of None second = second
first_of (Some pair) second = Some pair

-- the one answer for which `IsOwner` holds
unfoldable pub owner_of : List (ℕ × ℕ) → ℕ → List Bool → Option ℕ
owner_of pairs point usable =
    option_map (λ pair. pair.1) (first_of (least_of (usable_pairs_from pairs point usable)) (least_of (usable_pairs pairs usable)))

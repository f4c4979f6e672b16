-- The one owner of a point, and what changes it.
use Rattle.std.proofs.Common.{◌≡◌, ◌≢◌, ℕ, zero, suc, Bool, true, false, leb, ◌⊎◌, inl, inr, Option, Some, None, IfSome, List, [], ◌∷◌, length, filter, refl, sym, ◌∙◌, ap, subst, Contains, arith}
use Rattle.std.specs.Option.{option_map}
use Rattle.std.proofs.lemmas.Bool.{cases_Bool, cases_eq, cases_lt, both_ways, leb-true, le-leb, cond-true, cond-false}
use Rattle.std.proofs.lemmas.List.{get_or-set_other, get_or-set_same, set_past, get_or-replicate, get_or_past}
use Rattle.ketama.specs.Owner.{is_usable, IsUsablePair, IsUsablePairFrom, IsLeast, IsLeastIfAny, Owns, IsOwner, least_of, usable_pairs, usable_pairs_from, first_of, owner_of}
use Rattle.ketama.specs.OwnerLaws.{usable_without, all_usable, OthersKeepTheirPoints, FirstChoiceStands, OwnersGoByMembers}
use Rattle.ketama.proofs.LeastPairLemmas.{same_host, IsLeastIfAny-same, IsLeastIfAny-lesser}

-- ---- one owner at most

least_is_one : (K : ℕ × ℕ → Type 0) (a b : ℕ × ℕ) → IsLeast K a → IsLeast K b → a.1 ≡ b.1
least_is_one K a b la lb = same_host a b (la.first b lb.kind) (lb.first a la.kind)

owns_is_one : (pairs : List (ℕ × ℕ)) (point : ℕ) (usable : List Bool) (a b : ℕ) → Owns pairs point usable a → Owns pairs point usable b → a ≡ b
owns_is_one pairs point usable a b (at, owns) (at', owns') = elim owns [
  | inl here ↦ elim owns' [
    | inl here' ↦ least_is_one (IsUsablePairFrom pairs point usable) (at, a) (at', b) here here'
    | inr past' ↦ absurd (past'.0 (at, a) here.kind)
  ]
  | inr past ↦ elim owns' [
    | inl here' ↦ absurd (past.0 (at', b) here'.kind)
    | inr past' ↦ least_is_one (IsUsablePair pairs usable) (at, a) (at', b) past.1 past'.1
  ]
]

-- the pair by which a host owns a point
owned_pair : (pairs : List (ℕ × ℕ)) (point : ℕ) (usable : List Bool) (host : ℕ) → Owns pairs point usable host → (at : ℕ) × IsUsablePair pairs usable (at, host)
owned_pair pairs point usable host (at, owns) = elim owns [ inl here ↦ (at, here.kind.usable_pair) | inr past ↦ (at, past.1.kind) ]

-- an owner is usable
pub IsOwner-usable : (pairs : List (ℕ × ℕ)) (point : ℕ) (usable : List Bool) (answer : Option ℕ) → IsOwner pairs point usable answer → IfSome answer (λ host. is_usable usable host ≡ true)
IsOwner-usable pairs point usable None none = tt
IsOwner-usable pairs point usable (Some host) owns = (owned_pair pairs point usable host owns).1.host_usable

pub owner_is_one : (pairs : List (ℕ × ℕ)) (point : ℕ) (usable : List Bool) (a b : Option ℕ) → IsOwner pairs point usable a → IsOwner pairs point usable b → a ≡ b
owner_is_one pairs point usable None None a b = refl
owner_is_one pairs point usable None (Some y) a b = let pair = owned_pair pairs point usable y b in absurd (a (pair.0, y) pair.1)
owner_is_one pairs point usable (Some x) None a b = let pair = owned_pair pairs point usable x a in absurd (b (pair.0, x) pair.1)
owner_is_one pairs point usable (Some x) (Some y) a b = ap (λ host. Some host) (owns_is_one pairs point usable x y a b)

-- ---- `owner_of` is an owner

Contains-cons_cases : (x : ℕ × ℕ) (xs : List (ℕ × ℕ)) (y : ℕ × ℕ) → Contains (x ∷ xs) y → Contains xs y ⊎ (x ≡ y)
Contains-cons_cases x xs y (zero, within, e) = inr e
Contains-cons_cases x xs y (suc k, within, e) = inl (k, omega arith, e)

Contains-cons_head : (x : ℕ × ℕ) (xs : List (ℕ × ℕ)) (y : ℕ × ℕ) → x ≡ y → Contains (x ∷ xs) y
Contains-cons_head x xs y e = (0, omega arith, e)

Contains-cons_tail : (x : ℕ × ℕ) (xs : List (ℕ × ℕ)) (y : ℕ × ℕ) → Contains xs y → Contains (x ∷ xs) y
Contains-cons_tail x xs y (k, within, e) = (suc k, omega arith, e)

Contains-from_filter : (test : ℕ × ℕ → Bool) (xs : List (ℕ × ℕ)) (y : ℕ × ℕ) → Contains (filter test xs) y → Contains xs y × (test y ≡ true)
Contains-from_filter test [] y (k, within, e) = absurd (omega arith)
Contains-from_filter test (x ∷ xs) y is = elim (cases_Bool (test x)) [
  | inl passes ↦ elim (Contains-cons_cases x (filter test xs) y (subst (λ ys. Contains ys y) (cond-true (test x) (x ∷ filter test xs) (filter test xs) passes) is)) [
    | inl later ↦ let rest = Contains-from_filter test xs y later in (Contains-cons_tail x xs y rest.0, rest.1)
    | inr here ↦ (Contains-cons_head x xs y here, ap test (sym here) ∙ passes)
  ]
  | inr fails ↦
      let rest = Contains-from_filter test xs y (subst (λ ys. Contains ys y) (cond-false (test x) (x ∷ filter test xs) (filter test xs) fails) is) in
      (Contains-cons_tail x xs y rest.0, rest.1)
]

Contains-filter : (test : ℕ × ℕ → Bool) (xs : List (ℕ × ℕ)) (y : ℕ × ℕ) → Contains xs y → test y ≡ true → Contains (filter test xs) y
Contains-filter test [] y (k, within, e) passes = absurd (omega arith)
Contains-filter test (x ∷ xs) y is passes = elim (Contains-cons_cases x xs y is) [
  | inl later ↦
      let rest = Contains-filter test xs y later passes in
      elim (cases_Bool (test x)) [
        | inl kept ↦ subst (λ ys. Contains ys y) (sym (cond-true (test x) (x ∷ filter test xs) (filter test xs) kept)) (Contains-cons_tail x (filter test xs) y rest)
        | inr left ↦ subst (λ ys. Contains ys y) (sym (cond-false (test x) (x ∷ filter test xs) (filter test xs) left)) rest
      ]
  | inr here ↦
      subst (λ ys. Contains ys y) (sym (cond-true (test x) (x ∷ filter test xs) (filter test xs) (ap test here ∙ passes))) (Contains-cons_head x (filter test xs) y here)
]

least_of-is : (pairs : List (ℕ × ℕ)) → IsLeastIfAny (Contains pairs) (least_of pairs)
least_of-is [] = λ pair (k, within, e). omega arith
least_of-is (pair ∷ pairs) =
    IsLeastIfAny-lesser (Contains pairs) (Contains (pair ∷ pairs)) pair
    (Contains-cons_tail pair pairs)
    (Contains-cons_head pair pairs pair refl)
    (Contains-cons_cases pair pairs)
    (least_of pairs) (least_of-is pairs)

to_usable : (pairs : List (ℕ × ℕ)) (usable : List Bool) (pair : ℕ × ℕ) → Contains (usable_pairs pairs usable) pair → IsUsablePair pairs usable pair
to_usable pairs usable pair is =
    let parts = Contains-from_filter (λ q. is_usable usable q.1) pairs pair is in
    record { member = parts.0; host_usable = parts.1 }

from_usable : (pairs : List (ℕ × ℕ)) (usable : List Bool) (pair : ℕ × ℕ) → IsUsablePair pairs usable pair → Contains (usable_pairs pairs usable) pair
from_usable pairs usable pair is = Contains-filter (λ q. is_usable usable q.1) pairs pair is.member is.host_usable

to_usable_from : (pairs : List (ℕ × ℕ)) (point : ℕ) (usable : List Bool) (pair : ℕ × ℕ) → Contains (usable_pairs_from pairs point usable) pair → IsUsablePairFrom pairs point usable pair
to_usable_from pairs point usable pair is =
    let parts = Contains-from_filter (λ q. leb point q.0) (usable_pairs pairs usable) pair is in
    record { at_or_above = leb-true point pair.0 parts.1; usable_pair = to_usable pairs usable pair parts.0 }

from_usable_from : (pairs : List (ℕ × ℕ)) (point : ℕ) (usable : List Bool) (pair : ℕ × ℕ) → IsUsablePairFrom pairs point usable pair → Contains (usable_pairs_from pairs point usable) pair
from_usable_from pairs point usable pair is =
    Contains-filter (λ q. leb point q.0) (usable_pairs pairs usable) pair (from_usable pairs usable pair is.usable_pair) (le-leb point pair.0 is.at_or_above)

owner-by_leasts : (pairs : List (ℕ × ℕ)) (point : ℕ) (usable : List Bool) (here all : Option (ℕ × ℕ)) → IsLeastIfAny (IsUsablePairFrom pairs point usable) here → IsLeastIfAny (IsUsablePair pairs usable) all → IsOwner pairs point usable (option_map (λ pair. pair.1) (first_of here all))
owner-by_leasts pairs point usable None None none empty = empty
owner-by_leasts pairs point usable None (Some all) none is = (all.0, inr (none, is))
owner-by_leasts pairs point usable (Some here) all is rest = (here.0, inl is)

pub owner_of-is : (pairs : List (ℕ × ℕ)) (point : ℕ) (usable : List Bool) → IsOwner pairs point usable (owner_of pairs point usable)
unfolding owner_of
owner_of-is pairs point usable =
    owner-by_leasts pairs point usable (least_of (usable_pairs_from pairs point usable)) (least_of (usable_pairs pairs usable))
    (IsLeastIfAny-same (Contains (usable_pairs_from pairs point usable)) (IsUsablePairFrom pairs point usable)
    (to_usable_from pairs point usable) (from_usable_from pairs point usable) _ (least_of-is (usable_pairs_from pairs point usable)))
    (IsLeastIfAny-same (Contains (usable_pairs pairs usable)) (IsUsablePair pairs usable)
    (to_usable pairs usable) (from_usable pairs usable) _ (least_of-is (usable_pairs pairs usable)))

-- an owner is what `owner_of` says
pub owner_of-unique : (pairs : List (ℕ × ℕ)) (point : ℕ) (usable : List Bool) (answer : Option ℕ) → IsOwner pairs point usable answer → answer ≡ owner_of pairs point usable
owner_of-unique pairs point usable answer is = owner_is_one pairs point usable answer (owner_of pairs point usable) is (owner_of-is pairs point usable)

-- ---- fewer usable hosts

wider : (pairs : List (ℕ × ℕ)) (usable fewer : List Bool) → ((h : ℕ) → is_usable fewer h ≡ true → is_usable usable h ≡ true) → (pair : ℕ × ℕ) → IsUsablePair pairs fewer pair → IsUsablePair pairs usable pair
wider pairs usable fewer subset pair is = record { member = is.member; host_usable = subset pair.1 is.host_usable }

wider_from : (pairs : List (ℕ × ℕ)) (point : ℕ) (usable fewer : List Bool) → ((h : ℕ) → is_usable fewer h ≡ true → is_usable usable h ≡ true) → (pair : ℕ × ℕ) → IsUsablePairFrom pairs point fewer pair → IsUsablePairFrom pairs point usable pair
wider_from pairs point usable fewer subset pair is = record { at_or_above = is.at_or_above; usable_pair = wider pairs usable fewer subset pair is.usable_pair }

-- the owner among more hosts, where it is still usable, is the owner among fewer
fewer_owners : (pairs : List (ℕ × ℕ)) (point : ℕ) (usable fewer : List Bool) → ((h : ℕ) → is_usable fewer h ≡ true → is_usable usable h ≡ true) → (answer : Option ℕ) → IfSome answer (λ host. is_usable fewer host ≡ true) → IsOwner pairs point usable answer → IsOwner pairs point fewer answer
fewer_owners pairs point usable fewer subset None still none = λ pair is. none pair (wider pairs usable fewer subset pair is)
fewer_owners pairs point usable fewer subset (Some host) still (at, owns) = elim owns [
  | inl here ↦ (
    at,
    inl (record {
      kind = record { at_or_above = here.kind.at_or_above; usable_pair = record { member = here.kind.usable_pair.member; host_usable = still } };
      first = λ pair is. here.first pair (wider_from pairs point usable fewer subset pair is);
    }),
  )
  | inr past ↦ (
    at,
    inr (
      (λ pair is. past.0 pair (wider_from pairs point usable fewer subset pair is)),
      record {
        kind = record { member = past.1.kind.member; host_usable = still };
        first = λ pair is. past.1.first pair (wider pairs usable fewer subset pair is);
      },
    ),
  )
]

fewer_owner_of : (pairs : List (ℕ × ℕ)) (point : ℕ) (usable fewer : List Bool) → ((h : ℕ) → is_usable fewer h ≡ true → is_usable usable h ≡ true) → IfSome (owner_of pairs point usable) (λ host. is_usable fewer host ≡ true) → owner_of pairs point usable ≡ owner_of pairs point fewer
fewer_owner_of pairs point usable fewer subset still =
    owner_of-unique pairs point fewer (owner_of pairs point usable)
    (fewer_owners pairs point usable fewer subset (owner_of pairs point usable) still (owner_of-is pairs point usable))

-- ---- a host goes out

out-without : (usable : List Bool) (host : ℕ) → is_usable (usable_without usable host) host ≡ false
out-without usable host = elim (cases_lt host (length usable)) [
  | inl within ↦ get_or-set_same usable host false false within
  | inr past ↦ rw (set_past usable host false past) (get_or_past usable host false past)
]

subset-without : (usable : List Bool) (host h : ℕ) → is_usable (usable_without usable host) h ≡ true → is_usable usable h ≡ true
subset-without usable host h on = elim (cases_eq h host) [
  | inl same ↦ absurd (both_ways _ (out-without usable host) (subst (λ k. is_usable (usable_without usable host) k ≡ true) same on))
  | inr other ↦ sym (get_or-set_other usable host h false false other) ∙ on
]

still_usable : (pairs : List (ℕ × ℕ)) (point : ℕ) (usable : List Bool) (host : ℕ) (answer : Option ℕ) → IsOwner pairs point usable answer → answer ≢ Some host → IfSome answer (λ h. is_usable (usable_without usable host) h ≡ true)
still_usable pairs point usable host None is other = tt
still_usable pairs point usable host (Some h) is other =
    get_or-set_other usable host h false false (λ same. other (ap (λ k. Some k) same)) ∙ (owned_pair pairs point usable h is).1.host_usable

pub others_keep_their_points : OthersKeepTheirPoints
others_keep_their_points pairs point usable host other =
    sym (fewer_owner_of pairs point usable (usable_without usable host) (subset-without usable host)
    (still_usable pairs point usable host (owner_of pairs point usable) (owner_of-is pairs point usable) other))

-- ---- others are out

subset-all : (usable : List Bool) (h : ℕ) → is_usable usable h ≡ true → is_usable (all_usable usable) h ≡ true
subset-all usable h on = elim (cases_lt h (length usable)) [
  | inl within ↦ get_or-replicate (length usable) h true false within
  | inr past ↦ absurd (both_ways _ (get_or_past usable h false past) on)
]

pub first_choice_stands : FirstChoiceStands
first_choice_stands pairs point usable host chosen on =
    sym (fewer_owner_of pairs point (all_usable usable) usable (subset-all usable) (rw chosen on)) ∙ chosen

-- ---- the same members

owners_by_members : (pairs others : List (ℕ × ℕ)) (point : ℕ) (usable : List Bool) → ((pair : ℕ × ℕ) → Contains pairs pair → Contains others pair) → ((pair : ℕ × ℕ) → Contains others pair → Contains pairs pair) → (answer : Option ℕ) → IsOwner pairs point usable answer → IsOwner others point usable answer
owners_by_members pairs others point usable to from None none = λ pair is. none pair (record { member = from pair is.member; host_usable = is.host_usable })
owners_by_members pairs others point usable to from (Some host) (at, owns) =
    let there = λ (pair : ℕ × ℕ) (is : IsUsablePair pairs usable pair). let r : IsUsablePair others usable pair = record { member = to pair is.member; host_usable = is.host_usable } in r in
    let back = λ (pair : ℕ × ℕ) (is : IsUsablePair others usable pair). let r : IsUsablePair pairs usable pair = record { member = from pair is.member; host_usable = is.host_usable } in r in
    let back_from = λ (pair : ℕ × ℕ) (is : IsUsablePairFrom others point usable pair). let r : IsUsablePairFrom pairs point usable pair = record { at_or_above = is.at_or_above; usable_pair = back pair is.usable_pair } in r in
    elim owns [
      | inl here ↦ (
        at,
        inl (record {
          kind = record { at_or_above = here.kind.at_or_above; usable_pair = there (at, host) here.kind.usable_pair };
          first = λ pair is. here.first pair (back_from pair is);
        }),
      )
      | inr past ↦ (
        at,
        inr (
          (λ pair is. past.0 pair (back_from pair is)),
          record { kind = there (at, host) past.1.kind; first = λ pair is. past.1.first pair (back pair is) },
        ),
      )
    ]

pub owners_go_by_members : OwnersGoByMembers
owners_go_by_members pairs others point usable same =
    sym (owner_of-unique others point usable (owner_of pairs point usable)
    (owners_by_members pairs others point usable (λ pair. (same pair).0) (λ pair. (same pair).1) (owner_of pairs point usable) (owner_of-is pairs point usable)))

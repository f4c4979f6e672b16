-- Pairs in ascending order: how a sort leaves them, and what the first usable one of them is.
use Rattle.std.proofs.Common.{◌≡◌, ℕ, ◌<◌, ◌≤◌, ◌+◌, ◌-◌, Bool, true, false, ◌==◌, ◌&&◌, inl, inr, Option, Some, None, List, [], ◌∷◌, length, drop, get_or, sym, ◌∙◌, ap, subst, All, AllPairs, Less, Ordering, nat_cmp, arith}
use Rattle.std.specs.Cmp.{IsTotalOrder, IsEquivalence}
use Rattle.std.specs.Ordering.{ordering_then}
use Rattle.std.specs.List.{AllByRecursion, AllWithin}
use Rattle.std.specs.List.Sorted.{IsStrictlySortedBy, IsPartitionPoint, IsNonDecreasingBy}
use Rattle.std.proofs.lemmas.Bool.{cases_eq, cases_lt, cases_order, both_ways}
use Rattle.std.proofs.lemmas.Bool.Decides.{nat_tests}
use Rattle.std.proofs.lemmas.Cmp.{nat_cmp_total, nat_eq_equiv, on_total, then_total, on_equiv, and_equiv}
use Rattle.std.proofs.lemmas.List.{get_or_default, get_or-drop, length-drop}
use Rattle.std.proofs.lemmas.List.Elements.{All-cons, Contains-get_or}
use Rattle.std.proofs.lemmas.List.Kept.{AllPairs-cons}
use Rattle.ketama.specs.Continuum.{IsBefore}
use Rattle.ketama.specs.Owner.{is_usable, IsUsablePair, IsUsablePairFrom, IsAtOrBefore, IsLeast, IsLeastIfAny, HasNone, IsOwner}
use Rattle.ketama.proofs.LeastPairLemmas.{IsAtOrBefore-refl, IsLeastIfAny-same}

-- ---- after a sort

-- the order of std's sort at pairs
abbrev pub pair_cmp : ℕ × ℕ → ℕ × ℕ → Ordering
pair_cmp a b = ordering_then (nat_cmp a.0 b.0) (nat_cmp a.1 b.1)

pub pair_cmp_total : IsTotalOrder pair_cmp
pair_cmp_total = then_total (on_total (λ (p : ℕ × ℕ). p.0) nat_cmp_total) (on_total (λ (p : ℕ × ℕ). p.1) nat_cmp_total)

pub pair_eq_equiv : IsEquivalence (λ (a b : ℕ × ℕ). (a.0 == b.0) && (a.1 == b.1))
pair_eq_equiv = and_equiv (on_equiv (λ (p : ℕ × ℕ). p.0) nat_eq_equiv) (on_equiv (λ (p : ℕ × ℕ). p.1) nat_eq_equiv)

pair_cmp-Less : (a b : ℕ × ℕ) → pair_cmp a b ≡ Less → IsBefore a b
pair_cmp-Less a b less = grind (arith, nat_tests)

all_before : (x : ℕ × ℕ) (ys : List (ℕ × ℕ)) → AllByRecursion (λ y. pair_cmp x y ≡ Less) ys → All (IsBefore x) ys
all_before x [] less = λ k d within. absurd (omega arith)
all_before x (y ∷ ys) less = All-cons (IsBefore x) y ys (pair_cmp-Less x y less.0) (all_before x ys less.1)

pub AllPairs-sorted : (xs : List (ℕ × ℕ)) → IsStrictlySortedBy pair_cmp xs → AllPairs IsBefore xs
unfolding IsStrictlySortedBy
AllPairs-sorted [] sorted = λ i j d below within. absurd (omega arith)
AllPairs-sorted (x ∷ xs) sorted = AllPairs-cons IsBefore x xs (all_before x xs sorted.0) (AllPairs-sorted xs sorted.1)

-- ---- the first usable pair

IsBefore-IsAtOrBefore : (a b : ℕ × ℕ) → IsBefore a b → IsAtOrBefore a b
IsBefore-IsAtOrBefore a b before = elim (cases_eq a.0 b.0) [
  | inl same ↦ let less = before.1 same in inr (same, omega arith)
  | inr apart ↦ inl (omega (arith, apart, before.0))
]

-- the pair at i is usable, and none before it is
pub first_usable-IsLeast : (pairs : List (ℕ × ℕ)) (usable : List Bool) (i : ℕ) → AllPairs IsBefore pairs → i < length pairs → ((k : ℕ) → k < i → is_usable usable (get_or pairs k (0, 0)).1 ≡ false) → is_usable usable (get_or pairs i (0, 0)).1 ≡ true → IsLeast (IsUsablePair pairs usable) (get_or pairs i (0, 0))
first_usable-IsLeast pairs usable i in_order within out on = record {
  kind = record { member = Contains-get_or pairs i (0, 0) within; host_usable = on };
  first = λ pair is.
      let (at, at_within, at_is) = is.member in
      let there : get_or pairs at (0, 0) ≡ pair = get_or_default pairs at (0, 0) pair at_within ∙ at_is in
      subst (IsAtOrBefore (get_or pairs i (0, 0))) there (elim (cases_order i at) [
        | inl same ↦ subst (λ k. IsAtOrBefore (get_or pairs i (0, 0)) (get_or pairs k (0, 0))) same (IsAtOrBefore-refl (get_or pairs i (0, 0)))
        | inr apart ↦ elim apart [
          | inl before ↦ IsBefore-IsAtOrBefore _ _ (in_order i at (0, 0) before at_within)
          | inr after ↦ absurd (both_ways _ (out at after) (subst (λ (p : ℕ × ℕ). is_usable usable p.1 ≡ true) (sym there) is.host_usable))
        ]
      ]);
}

pub none_usable : (pairs : List (ℕ × ℕ)) (usable : List Bool) → ((k : ℕ) → k < length pairs → is_usable usable (get_or pairs k (0, 0)).1 ≡ false) → HasNone (IsUsablePair pairs usable)
none_usable pairs usable out pair is =
    let (at, at_within, at_is) = is.member in
    let there : get_or pairs at (0, 0) ≡ pair = get_or_default pairs at (0, 0) pair at_within ∙ at_is in
    both_ways _ (out at at_within) (subst (λ (p : ℕ × ℕ). is_usable usable p.1 ≡ true) (sym there) is.host_usable)

-- ---- a part of them

pub AllPairs-drop : (n : ℕ) (pairs : List (ℕ × ℕ)) → AllPairs IsBefore pairs → AllPairs IsBefore (drop n pairs)
AllPairs-drop n pairs in_order i j d below within =
    rw (get_or-drop n pairs i d, get_or-drop n pairs j d) (in_order (n + i) (n + j) d (omega arith) (omega (arith, length-drop n pairs)))

pub All-drop : (P : ℕ × ℕ → Type 0) (n : ℕ) (pairs : List (ℕ × ℕ)) → All P pairs → All P (drop n pairs)
All-drop P n pairs all k d within = rw (get_or-drop n pairs k d) (all (n + k) d (omega (arith, length-drop n pairs)))

points_ascend : (pairs : List (ℕ × ℕ)) → AllPairs IsBefore pairs → IsNonDecreasingBy (λ pair. pair.0) pairs
points_ascend pairs in_order i j d upto within = elim (cases_eq i j) [
  | inl same ↦ rw same (omega arith)
  | inr apart ↦ (in_order i j d (omega (arith, apart)) within).0
]

-- a pair is below the point, and so are all before it
pub all_below : (pairs : List (ℕ × ℕ)) (point last : ℕ) → AllPairs IsBefore pairs → last < length pairs → (get_or pairs last (0, 0)).0 < point → AllWithin (λ pair. pair.0 < point) pairs 0 (last + 1)
all_below pairs point last in_order within below k d first upto =
    let ascend = points_ascend pairs in_order k last d (omega arith) within in
    let same = get_or_default pairs last d (0, 0) within in
    omega (arith, rw same at ascend, below)

-- a pair is not below the point, and neither are those behind it
pub none_below : (pairs : List (ℕ × ℕ)) (point from : ℕ) → AllPairs IsBefore pairs → from < length pairs → point ≤ (get_or pairs from (0, 0)).0 → AllWithin (λ pair. point ≤ pair.0) pairs from (length pairs)
none_below pairs point from in_order within above k d behind upto =
    let ascend = points_ascend pairs in_order from k d behind upto in
    let same = get_or_default pairs from d (0, 0) within in
    omega (arith, rw same at ascend, above)

-- the usable pairs from a place on are those at the point or above
pub from_place : (pairs : List (ℕ × ℕ)) (point place : ℕ) (usable : List Bool) (least : Option (ℕ × ℕ)) → IsPartitionPoint (λ pair. pair.0 < point) (λ pair. point ≤ pair.0) pairs place → IsLeastIfAny (IsUsablePair (drop place pairs) usable) least → IsLeastIfAny (IsUsablePairFrom pairs point usable) least
from_place pairs point place usable least parts is =
    IsLeastIfAny-same (IsUsablePair (drop place pairs) usable) (IsUsablePairFrom pairs point usable)
    (λ pair u.
    let (k, k_within, k_is) = u.member in
    let within : place + k < length pairs = omega (arith, k_within, length-drop place pairs) in
    let there : get_or pairs (place + k) pair ≡ pair = sym (get_or-drop place pairs k pair) ∙ k_is in
    let above : point ≤ pair.0 = subst (λ (p : ℕ × ℕ). point ≤ p.0) there (parts.1 (place + k) pair (omega arith) within) in
    record { at_or_above = above; usable_pair = record { member = (place + k, within, there); host_usable = u.host_usable } })
    (λ pair u.
    let (k, within, k_is) = u.usable_pair.member in
    elim (cases_lt k place) [
      | inl before ↦
          let less : pair.0 < point = subst (λ (p : ℕ × ℕ). p.0 < point) k_is (parts.0 k pair (omega arith) before) in
          absurd (omega (arith, less, u.at_or_above))
      | inr from ↦
          let e : place + (k - place) ≡ k = omega arith in
          record {
            member = (
              k - place,
              omega (arith, within, length-drop place pairs),
              get_or-drop place pairs (k - place) pair ∙ ap (λ i. get_or pairs i pair) e ∙ k_is,
            );
            host_usable = u.usable_pair.host_usable;
          }
    ])
    least is

-- ---- the owner

pub owner_from : (pairs : List (ℕ × ℕ)) (point : ℕ) (usable : List Bool) (pair : ℕ × ℕ) → IsLeastIfAny (IsUsablePairFrom pairs point usable) (Some pair) → IsOwner pairs point usable (Some pair.1)
owner_from pairs point usable pair is = (pair.0, inl is)

pub owner_past : (pairs : List (ℕ × ℕ)) (point : ℕ) (usable : List Bool) (pair : ℕ × ℕ) → IsLeastIfAny (IsUsablePairFrom pairs point usable) None → IsLeastIfAny (IsUsablePair pairs usable) (Some pair) → IsOwner pairs point usable (Some pair.1)
owner_past pairs point usable pair none is = (pair.0, inr (none, is))

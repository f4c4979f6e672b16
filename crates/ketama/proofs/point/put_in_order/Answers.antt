use Rattle.std.proofs.Common.{arith}
use Rattle.std.proofs.lemmas.Bool.Decides.{nat_tests}
use Rattle.std.proofs.lemmas.List.Filters.{dedup_is}
use Rattle.std.proofs.lemmas.List.Kept.{Contains-dedup, Contains-from_dedup, IsStrictlySortedBy-dedup}
use Rattle.std.proofs.lemmas.List.Sorted.{Contains-permutation, IsPermutation-sym}
use Rattle.ketama.proofs.SortedPairLemmas.{pair_cmp_total, pair_eq_equiv, AllPairs-sorted}
use Rattle.ketama.proofs.point.put_in_order.Goals as goal

pub returns-clause-in_order : goal.returns-clause-in_order
returns-clause-in_order c =
    rw (dedup_is _ _ _ c.dedup.ensures.filtered) (AllPairs-sorted _ (IsStrictlySortedBy-dedup pair_cmp_total (λ x y. grind (arith, nat_tests)) _ c.sort_unstable.ensures.sorted))

pub returns-clause-members : goal.returns-clause-members
returns-clause-members c pair =
    let is = dedup_is _ _ _ c.dedup.ensures.filtered in
    let moved = c.sort_unstable.ensures.permutation in (
      (λ h. Contains-permutation _ _ pair (IsPermutation-sym _ _ moved) (Contains-from_dedup _ _ pair (rw is at h))),
      λ h. rw is (Contains-dedup pair_eq_equiv (λ x y e. grind (arith, nat_tests)) _ pair (Contains-permutation _ _ pair moved h)),
    )

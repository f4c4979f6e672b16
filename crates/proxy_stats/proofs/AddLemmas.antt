-- Numbers of names added to others.
use Rattle.std.proofs.Common.{◌≡◌, ◌≢◌, inl, inr, ℕ, ◌+◌, ◌^◌, ◌<◌, ◌≤◌, List, [], ◌++◌, get_or, length, set, take, sum_by, refl, sym, ap, ◌∙◌, arith, length-append}
use Rattle.std.proofs.lemmas.List.{get_or_default, length-set}
use Rattle.std.specs.List.{position_or_len}
use Rattle.proxy_stats.proofs.MajorityLemmas.{place_of_key}
use Rattle.std.proofs.lemmas.List.Sums.{get_or-le-sum_by, sum_by-append, sum_by_more}
use Rattle.proxy_stats.specs.declared.refused_names.RefusedName.{RefusedName}
use Rattle.proxy_stats.specs.declared.refused_names.RefusedNames.{RefusedNames}
use Rattle.proxy_stats.specs.RefusedNames.{AreAdded, AreAddedWith, AreCountedIn, capped, count, count_of, counted, has_key, HasRoom, HaveOneNameEach, IsLeast, joined, nowhere, times, total}
use Rattle.proxy_stats.proofs.KeyLemmas.{keys_differ_or_not}
use Rattle.proxy_stats.proofs.PlaceLemmas.{apart_from_each, apart_set, at, at_set_cases, count_at_most, count_elsewhere, count_here, each_from_apart, sum_set}

-- the numbers with some places more
pub record AreAddedSoFar (a : RefusedNames) (ps : List RefusedName) (c : RefusedNames) : Type 0 where
  pub places : length c.places ≡ length a.places
  pub all : total a + sum_by count ps < 2 ^ 64 → total c ≡ total a + sum_by count ps
  pub each : (key : List ℕ) → counted key c.places ≤ counted key a.places + counted key ps
  pub full : total a + sum_by count ps < 2 ^ 64 → HasRoom c.places → HasRoom a.places × ((key : List ℕ) → counted key c.places ≡ counted key a.places + counted key ps)
  pub once : HaveOneNameEach a.places → HaveOneNameEach c.places

pub added_none : (a : RefusedNames) → AreAddedSoFar a [] a
added_none a = record { places = refl; all = λ small. omega arith; each = λ key. omega arith; full = λ small room. (room, λ key. omega arith); once = λ is. is }

pub added_more : (a : RefusedNames) (ps : List RefusedName) (i : ℕ) (p : RefusedName) (c d : RefusedNames) → i < length ps → get_or ps i nowhere ≡ p → AreAddedSoFar a (take i ps) c → AreAddedWith c p d → AreAddedSoFar a (take (i + 1) ps) d
added_more a ps i p c d within here so more =
    let sums = sum_by_more count ps i nowhere within in
    let same = ap count here in
    record {
      places = more.places ∙ so.places;
      all = λ small. let before = so.all (omega (arith, small, sums)) in let after = more.all (omega (arith, small, sums, same, before)) in omega (arith, sums, same, before, after);
      each = λ key. let s = sum_by_more (count_of key) ps i nowhere within in let e = ap (count_of key) here in let before = so.each key in let after = more.each key in omega (arith, s, e, before, after);
      full = λ small room.
          let before = so.all (omega (arith, small, sums)) in
          let step = more.full (omega (arith, small, sums, same, before)) room in
          let earlier = so.full (omega (arith, small, sums)) step.0 in (
            earlier.0,
            λ key.
                let was = earlier.1 key in
                let now = step.1 key in
                let s = sum_by_more (count_of key) ps i nowhere within in
                let e = ap (count_of key) here in
                omega (arith, s, e, was, now),
          );
      once = λ is. more.once (so.once is);
    }

-- and with the other's rest
pub added_all : (a b c : RefusedNames) (rest : ℕ) → AreAddedSoFar a b.places c → rest ≡ capped (c.others + b.others) → AreAdded a b (record c { others = rest })
added_all a b c rest so is = record {
  places = λ long. so.places ∙ long;
  all = λ small. let before = so.all (omega (arith, small)) in omega (arith, before, small, is);
  each = so.each;
  full = λ small. so.full (omega (arith, small));
  once = so.once;
}

-- ---- one place more

-- where a place is free once one counts more, one was free before
joined_room : (ps : List RefusedName) (i : ℕ) (q : RefusedName) (j : ℕ) → i < length ps → j < length (set ps i q) → (at (set ps i q) j).count ≡ 0 → (at ps i).count ≤ q.count → HasRoom ps
joined_room ps i q j within j_in zero more = elim (at_set_cases ps i q j within) [
  | inl same ↦ let e = ap count same.1 in (i, within, omega (arith, zero, more, e))
  | inr other ↦ let e = ap count other.1 in (j, omega (arith, j_in, length-set ps i q), omega (arith, zero, e))
]

-- its name has a place
pub joined_at : (a : RefusedNames) (i : ℕ) (p q : RefusedName) → i < length a.places → (at a.places i).key ≡ p.key → q ≡ joined (at a.places i) p → AreAddedWith a p (record a { places = set a.places i q })
joined_at a i p q within same is =
    let ps = a.places in
    let key_is : q.key ≡ (at ps i).key = ap (λ (z : RefusedName). z.key) is in
    let count_is : q.count ≡ capped ((at ps i).count + p.count) = ap count is in
    let most = get_or-le-sum_by count ps i nowhere within in
    record {
      places = length-set ps i q;
      all = λ small. let s = sum_set count ps i q within in omega (arith, s, count_is, most, small);
      each = λ key. let s = sum_set (count_of key) ps i q within in elim (keys_differ_or_not p.key key) [
        | inl here ↦
            let old = count_here key (at ps i) (same ∙ here) in
            let new = count_here key q (key_is ∙ same ∙ here) in
            let more = count_here key p here in
            omega (arith, s, old, new, more, count_is)
        | inr other ↦
            let old = count_elsewhere key (at ps i) (λ z. other (sym same ∙ z)) in
            let new = count_elsewhere key q (λ z. other (sym same ∙ sym key_is ∙ z)) in
            omega (arith, s, old, new)
      ];
      full = λ small room.
          let (j, j_in, zero) = room in (
            joined_room ps i q j within j_in zero (omega (arith, count_is, most, small)),
            λ key. let s = sum_set (count_of key) ps i q within in elim (keys_differ_or_not p.key key) [
              | inl here ↦
                  let old = count_here key (at ps i) (same ∙ here) in
                  let new = count_here key q (key_is ∙ same ∙ here) in
                  let more = count_here key p here in
                  omega (arith, s, old, new, more, count_is, most, small)
              | inr other ↦
                  let old = count_elsewhere key (at ps i) (λ z. other (sym same ∙ z)) in
                  let new = count_elsewhere key q (λ z. other (sym same ∙ sym key_is ∙ z)) in
                  let more = count_elsewhere key p other in
                  omega (arith, s, old, new, more)
            ],
          );
      once = λ each. let apart = apart_from_each ps each in each_from_apart (set ps i q) (apart_set ps i q within apart (λ j j_in other z. key_is ∙ apart i j within j_in (λ e. other (sym e)) (sym key_is ∙ sym z)));
    }

-- its name has none, and it takes one
pub placed_at : (a : RefusedNames) (i : ℕ) (p : RefusedName) (rest : ℕ) → i < length a.places → ((j : ℕ) (d : RefusedName) → j < length a.places → (get_or a.places j d).key ≢ p.key) → IsLeast a.places i → (at a.places i).count < p.count → rest ≡ capped (a.others + (at a.places i).count) → AreAddedWith a p (record { places = set a.places i p; others = rest })
placed_at a i p rest within absent least less is =
    let ps = a.places in
    let most = get_or-le-sum_by count ps i nowhere within in
    record {
      places = length-set ps i p;
      all = λ small. let s = sum_set count ps i p within in omega (arith, s, is, most, small);
      each = λ key. let s = sum_set (count_of key) ps i p within in omega (arith, s);
      full = λ small room.
          let (j, j_in, zero) = room in
          elim (at_set_cases ps i p j within) [
            | inl same ↦ absurd (let e = ap count same.1 in omega (arith, e, zero, less))
            | inr other ↦
                let j_old : j < length ps = omega (arith, j_in, length-set ps i p) in
                let e = ap count other.1 in
                let low = least.least j nowhere j_old in
                let none : (at ps j).count ≡ 0 = omega (arith, e, zero) in
                ((j, j_old, none), λ key. let s = sum_set (count_of key) ps i p within in let most_of = count_at_most key (at ps i) in omega (arith, s, most_of, low, none))
          ];
      once = λ each. each_from_apart (set ps i p) (apart_set ps i p within (apart_from_each ps each) (λ j j_in other z. absurd (absent j nowhere j_in z)));
    }

-- or gets none
pub left_over : (a : RefusedNames) (i : ℕ) (p : RefusedName) (rest : ℕ) → IsLeast a.places i → p.count ≤ (at a.places i).count → rest ≡ capped (a.others + p.count) → AreAddedWith a p (record a { others = rest })
left_over a i p rest least less is = record {
  places = refl;
  all = λ small. omega (arith, is, small);
  each = λ key. omega arith;
  full = λ small room.
      let (j, j_in, zero) = room in
      let low = least.least j nowhere j_in in
      (room, λ key. let most_of = count_at_most key p in omega (arith, most_of, less, low, zero));
  once = λ each. each;
}

-- ---- names

times_both : (key : List ℕ) (one other : List (List ℕ)) → times key (one ++ other) ≡ times key one + times key other
times_both key one other = sum_by-append _ one other

-- the numbers of two lists of names together are those of the names of both
pub added_law : (one other : List (List ℕ)) (a b c : RefusedNames) → length (one ++ other) < 2 ^ 64 → AreCountedIn one a → AreCountedIn other b → AreAdded a b c → AreCountedIn (one ++ other) c
added_law one other a b c small first second both =
    let long = length-append one other in
    let all_a = first.all in
    let all_b = second.all in
    record {
      places = both.places first.places;
      all = both.all (omega (arith, small, long, all_a, all_b)) ∙ omega (arith, long, all_a, all_b);
      each = λ key. let t = times_both key one other in let x = first.each key in let y = second.each key in let z = both.each key in omega (arith, t, x, y, z);
      once = both.once first.once;
    }

-- ---- where a name is found

pub key_at : (key : List ℕ) (ps : List RefusedName) (i : ℕ) → i ≡ position_or_len (has_key key) ps → i < length ps → (at ps i).key ≡ key
key_at key ps i is within = elim (place_of_key key ps) [
  | inl there ↦ ap (λ n. (at ps n).key) is ∙ there.1
  | inr without ↦ absurd (let past = without.0 in omega (arith, past, is, within))
]

pub absent_past : (key : List ℕ) (ps : List RefusedName) (i : ℕ) → i ≡ position_or_len (has_key key) ps → length ps ≤ i → (j : ℕ) (d : RefusedName) → j < length ps → (get_or ps j d).key ≢ key
absent_past key ps i is past j d j_in same = elim (place_of_key key ps) [
  | inl there ↦ absurd (let within = there.0 in omega (arith, within, is, past))
  | inr without ↦ without.1 j j_in (ap (λ (p : RefusedName). p.key) (get_or_default ps j nowhere d j_in) ∙ same)
]

-- What places and weights keep, name by name.
use Rattle.std.proofs.Common.{◌≡◌, ◌≢◌, ◌⊎◌, inl, inr, ℕ, ◌+◌, ◌*◌, ◌^◌, ◌<◌, ◌≤◌, List, All, set, length, map, sum_by, refl, sym, ap, ◌∙◌, subst, arith}
use Rattle.std.specs.List.{position_or_len}
use Rattle.std.proofs.lemmas.Bool.{both_ways, cases_eq, cases_lt, eqb-true, eqb-false, lt-ltb, le-ltb}
use Rattle.std.proofs.lemmas.Slice.Eq.{bytes_eq-Decides}
use Rattle.std.proofs.lemmas.Bool.Decides.{nat_tests}
use Rattle.std.proofs.lemmas.List.{length-set, length-map}
use Rattle.std.proofs.lemmas.List.Elements.{All-from_get_or, All-get_or}
use Rattle.std.proofs.lemmas.List.Sums.{fails_before_first, get_or-le-sum_by, passes_at_first}
use Rattle.proxy_stats.specs.declared.refused_names.RefusedName.{RefusedName}
use Rattle.proxy_stats.specs.declared.refused_names.RefusedNames.{RefusedNames}
use Rattle.proxy_stats.specs.RefusedNames.{capped, count, count_of, counted, has_key, is_free, lightened, lighter, more_often, newly_placed, no_key, noted_key, nowhere, placed, total}
use Rattle.proxy_stats.proofs.KeyLemmas.{IsOnceMore, same_keys, keys_differ_or_not, once_more_grows, once_more_other, once_more_same}
use Rattle.proxy_stats.proofs.PlaceLemmas.{all_set, apart_lighter, apart_set, AreApart, at, at_lighter, at_set_other, at_set_same, count_at_most, count_elsewhere, count_here, lighter_cases, lighter_counted, lighter_counts, lighter_weights, sum_set, weight}

-- a place's name came about as often as its weight, and D more at most
pub record IsHeld (T : List ℕ → ℕ) (D : ℕ) (p : RefusedName) : Type 0 where
  pub heavy : T p.key ≤ p.weight + D
  pub light : p.weight ≤ p.count
  pub kept : 0 < p.count → 0 < p.weight
  pub free : p.count ≡ 0 → p.key ≡ no_key

-- no place has the key
abbrev pub IsAbsent : List ℕ → List RefusedName → Type 0
IsAbsent key ps = (j : ℕ) → j < length ps → (at ps j).key ≢ key

-- The places count n names, each of which came T times, and were made lighter D times.
pub record IsKept (T : List ℕ → ℕ) (n : ℕ) (r : RefusedNames) (D : ℕ) : Type 0 where
  pub places : length r.places ≡ 32
  pub all : total r ≡ n
  pub each : (key : List ℕ) → counted key r.places ≤ T key
  pub once : AreApart r.places
  pub held : All (IsHeld T D) r.places
  pub none : T no_key ≡ 0
  pub absent : (key : List ℕ) → IsAbsent key r.places → T key ≤ D
  pub bound : 33 * D + sum_by weight r.places ≤ n

-- ---- a name without a place that can have none

pub kept_hidden : (T T' : List ℕ → ℕ) (n : ℕ) (r : RefusedNames) (D : ℕ) → n + 1 < 2 ^ 64 → IsKept T n r D → ((key : List ℕ) → T' key ≡ T key) → IsKept T' (n + 1) (record r { others = capped (r.others + 1) }) D
kept_hidden T T' n r D small is same = record {
  places = is.places;
  all = let a = is.all in grind (arith, nat_tests);
  each = λ key. let e = is.each key in let s = same key in omega (arith, e, s);
  once = is.once;
  held = All-from_get_or (IsHeld T' D) r.places nowhere (λ i within. let h = All-get_or (IsHeld T D) r.places i nowhere within is.held in record {
    heavy = let s = same (at r.places i).key in let w = h.heavy in omega (arith, s, w);
    light = h.light;
    kept = h.kept;
    free = h.free;
  });
  none = same no_key ∙ is.none;
  absent = λ key gone. let a = is.absent key gone in let s = same key in omega (arith, a, s);
  bound = let b = is.bound in omega (arith, b);
}

-- ---- a name that has a place

pub kept_grown : (T : List ℕ → ℕ) (k : List ℕ) (T' : List ℕ → ℕ) (n : ℕ) (r : RefusedNames) (D i : ℕ) (q : RefusedName) → IsKept T n r D → IsOnceMore T k T' → k ≢ no_key → i < length r.places → (at r.places i).key ≡ k → q.key ≡ k → q.count ≡ (at r.places i).count + 1 → q.weight ≡ (at r.places i).weight + 1 → IsKept T' (n + 1) (record r { places = set r.places i q }) D
kept_grown T k T' n r D i q is more named within old_key key_is count_is weight_is =
    let ps = r.places in
    let p = at ps i in
    let here : IsHeld T D p = All-get_or (IsHeld T D) ps i nowhere within is.held in
    let apart : (j : ℕ) → j < length ps → j ≢ i → k ≢ (at ps j).key = λ j j_in other same. named (same ∙ is.once j i j_in within other (sym same ∙ sym old_key)) in
    record {
      places = length-set ps i q ∙ is.places;
      all = let s = sum_set count ps i q within in let a = is.all in omega (arith, s, a, count_is);
      each = λ key. elim (keys_differ_or_not k key) [
        | inl same ↦
            let s = sum_set (count_of key) ps i q within in
            let e = is.each key in
            let old = count_here key p (old_key ∙ same) in
            let new = count_here key q (key_is ∙ same) in
            let t = once_more_same T k T' key more same in
            omega (arith, s, e, old, new, t, count_is)
        | inr other ↦
            let s = sum_set (count_of key) ps i q within in
            let e = is.each key in
            let old = count_elsewhere key p (λ z. other (sym old_key ∙ z)) in
            let new = count_elsewhere key q (λ z. other (sym key_is ∙ z)) in
            let t = once_more_other T k T' key more other in
            omega (arith, s, e, old, new, t)
      ];
      once = apart_set ps i q within is.once (λ j j_in other same. absurd (apart j j_in other (sym (same ∙ key_is))));
      held = all_set (IsHeld T' D) ps i q within
          (λ j j_in other. let h = All-get_or (IsHeld T D) ps j nowhere j_in is.held in record {
            heavy = let t = once_more_other T k T' (at ps j).key more (apart j j_in other) in let w = h.heavy in omega (arith, t, w);
            light = h.light;
            kept = h.kept;
            free = h.free;
          })
          (record {
            heavy = let t = once_more_same T k T' q.key more (sym key_is) in let w = here.heavy in let z = ap T (key_is ∙ sym old_key) in omega (arith, t, w, z, weight_is);
            light = let l = here.light in omega (arith, l, weight_is, count_is);
            kept = λ some. omega (arith, weight_is);
            free = λ zero. absurd (omega (arith, count_is, zero));
          });
      none = once_more_other T k T' no_key more named ∙ is.none;
      absent = λ key gone.
          let other : k ≢ key = λ same. gone i (omega (arith, length-set ps i q)) (ap (λ (z : RefusedName). z.key) (at_set_same ps i q within) ∙ key_is ∙ same) in
          let before : IsAbsent key ps = λ j j_in. elim (cases_eq j i) [
            | inl same ↦ λ z. other (sym old_key ∙ sym (ap (λ m. (at ps m).key) same) ∙ z)
            | inr else' ↦ λ z. gone j (omega (arith, length-set ps i q)) (ap (λ (y : RefusedName). y.key) (at_set_other ps i q j else') ∙ z)
          ] in
          let t = once_more_other T k T' key more other in
          let a = is.absent key before in
          omega (arith, t, a);
      bound = let s = sum_set weight ps i q within in let b = is.bound in omega (arith, s, b, weight_is);
    }

-- ---- a name without a place, where one is free

pub kept_placed : (T : List ℕ → ℕ) (k : List ℕ) (T' : List ℕ → ℕ) (n : ℕ) (r : RefusedNames) (D i : ℕ) → IsKept T n r D → IsOnceMore T k T' → k ≢ no_key → IsAbsent k r.places → i < length r.places → (at r.places i).count ≡ 0 → IsKept T' (n + 1) (record r { places = set r.places i (newly_placed k) }) D
kept_placed T k T' n r D i is more named absent within free =
    let ps = r.places in
    let p = at ps i in
    let q = newly_placed k in
    let here : IsHeld T D p = All-get_or (IsHeld T D) ps i nowhere within is.held in
    let apart : (j : ℕ) → j < length ps → k ≢ (at ps j).key = λ j j_in same. absent j j_in (sym same) in
    record {
      places = length-set ps i q ∙ is.places;
      all = let s = sum_set count ps i q within in let a = is.all in omega (arith, s, a, free);
      each = λ key. let old = count_at_most key p in let s = sum_set (count_of key) ps i q within in let e = is.each key in elim (keys_differ_or_not k key) [
        | inl same ↦
            let new = count_here key q same in
            let t = once_more_same T k T' key more same in
            omega (arith, s, e, old, free, new, t)
        | inr other ↦
            let new = count_elsewhere key q other in
            let t = once_more_other T k T' key more other in
            omega (arith, s, e, old, free, new, t)
      ];
      once = apart_set ps i q within is.once (λ j j_in other same. absurd (absent j j_in same));
      held = all_set (IsHeld T' D) ps i q within
          (λ j j_in other. let h = All-get_or (IsHeld T D) ps j nowhere j_in is.held in record {
            heavy = let t = once_more_other T k T' (at ps j).key more (apart j j_in) in let w = h.heavy in omega (arith, t, w);
            light = h.light;
            kept = h.kept;
            free = h.free;
          })
          (record {
            heavy = let t = once_more_same T k T' k more refl in let a = is.absent k absent in omega (arith, t, a);
            light = omega arith;
            kept = λ some. omega arith;
            free = λ zero. absurd (omega (arith, zero));
          });
      none = once_more_other T k T' no_key more named ∙ is.none;
      absent = λ key gone.
          let other : k ≢ key = λ same. gone i (omega (arith, length-set ps i q)) (ap (λ (z : RefusedName). z.key) (at_set_same ps i q within) ∙ same) in
          let t = once_more_other T k T' key more other in
          elim (keys_differ_or_not no_key key) [
            | inl same ↦ let none = is.none in let z = ap T same in omega (arith, t, none, z)
            | inr named' ↦
                let before : IsAbsent key ps = λ j j_in. elim (cases_eq j i) [
                  | inl same ↦ λ z. named' (sym (here.free free) ∙ sym (ap (λ m. (at ps m).key) same) ∙ z)
                  | inr else' ↦ λ z. gone j (omega (arith, length-set ps i q)) (ap (λ (y : RefusedName). y.key) (at_set_other ps i q j else') ∙ z)
                ] in
                let a = is.absent key before in
                omega (arith, t, a)
          ];
      bound = let s = sum_set weight ps i q within in let b = is.bound in let l = here.light in omega (arith, s, b, l, free);
    }

-- ---- a name without a place, where none is free

held_lighter : (T : List ℕ → ℕ) (k : List ℕ) (T' : List ℕ → ℕ) (D : ℕ) (p : RefusedName) → IsOnceMore T k T' → T' no_key ≡ 0 → k ≢ p.key → IsHeld T D p → IsHeld T' (D + 1) (lighter p)
held_lighter T k T' D p more none other held = elim (lighter_cases p) [
  | inl leaves ↦ subst (IsHeld T' (D + 1)) (sym leaves.1) (record { heavy = omega (arith, none); light = omega arith; kept = λ some. absurd (omega (arith, some)); free = λ zero. refl })
  | inr stays ↦ subst (IsHeld T' (D + 1)) (sym stays.1) (record {
    heavy = let t = once_more_other T k T' p.key more other in let w = held.heavy in let above = stays.0 in omega (arith, t, w, above);
    light = let l = held.light in omega (arith, l);
    kept = λ some. let above = stays.0 in omega (arith, above);
    free = λ zero. absurd (let above = stays.0 in let l = held.light in omega (arith, above, l, zero));
  })
]

-- a name has a place, or none
pub place_of_key : (key : List ℕ) (ps : List RefusedName) → let place = position_or_len (has_key key) ps in ((place < length ps) × ((at ps place).key ≡ key)) ⊎ ((length ps ≤ place) × IsAbsent key ps)
place_of_key key ps = elim (cases_lt (position_or_len (has_key key) ps) (length ps)) [
  | inl within ↦ inl (within, (bytes_eq-Decides _ key).0 (passes_at_first (has_key key) ps nowhere within))
  | inr past ↦ inr (past, λ j j_in same. both_ways (has_key key (at ps j)) (fails_before_first (has_key key) ps j nowhere (omega arith)) (same_keys _ key same))
]

lighter_absent : (T : List ℕ → ℕ) (k : List ℕ) (T' : List ℕ → ℕ) (D : ℕ) (ps : List RefusedName) → All (IsHeld T D) ps → ((key : List ℕ) → IsAbsent key ps → T key ≤ D) → IsOnceMore T k T' → IsAbsent k ps → (key : List ℕ) → IsAbsent key (map lighter ps) → T' key ≤ D + 1
lighter_absent T k T' D ps held few more absent key gone = elim (keys_differ_or_not k key) [
  | inl same ↦ let t = once_more_same T k T' key more same in let a = few k absent in let z = ap T same in omega (arith, t, a, z)
  | inr other ↦ let t = once_more_other T k T' key more other in elim (place_of_key key ps) [
    | inr without ↦ let a = few key without.1 in omega (arith, t, a)
    | inl there ↦
        let j = position_or_len (has_key key) ps in
        let w = (All-get_or (IsHeld T D) ps j nowhere there.0 held).heavy in
        let z = ap T there.1 in
        elim (lighter_cases (at ps j)) [
          | inl leaves ↦ let low = leaves.0 in omega (arith, t, w, z, low)
          | inr stays ↦ absurd (gone j (omega (arith, there.0, length-map ps lighter)) (ap (λ (q : RefusedName). q.key) (at_lighter ps j there.0 ∙ stays.1) ∙ there.1))
        ]
  ]
]

pub kept_lighter : (T : List ℕ → ℕ) (k : List ℕ) (T' : List ℕ → ℕ) (n : ℕ) (r : RefusedNames) (D : ℕ) → n + 1 < 2 ^ 64 → IsKept T n r D → IsOnceMore T k T' → k ≢ no_key → IsAbsent k r.places → ((j : ℕ) → j < length r.places → 0 < (at r.places j).count) → IsKept T' (n + 1) (lightened r) (D + 1)
kept_lighter T k T' n r D small is more named absent full =
    let ps = r.places in
    let long = length-map ps lighter in
    let none = once_more_other T k T' no_key more named ∙ is.none in
    let apart : (j : ℕ) → j < length ps → k ≢ (at ps j).key = λ j j_in same. absent j j_in (sym same) in
    let heavy : All (λ (p : RefusedName). 0 < p.weight) ps = All-from_get_or (λ (p : RefusedName). 0 < p.weight) ps nowhere (λ j j_in. (All-get_or (IsHeld T D) ps j nowhere j_in is.held).kept (full j j_in)) in
    record {
      places = long ∙ is.places;
      all = let s = lighter_counts ps in let a = is.all in omega (arith, s, a, small);
      each = λ key. let s = lighter_counted key ps in let e = is.each key in let t = once_more_grows T k T' key more in omega (arith, s, e, t);
      once = apart_lighter ps is.once;
      held = All-from_get_or (IsHeld T' (D + 1)) (map lighter ps) nowhere (λ j j_in.
          let j_old : j < length ps = omega (arith, long) in
          subst (IsHeld T' (D + 1)) (sym (at_lighter ps j j_old)) (held_lighter T k T' D (at ps j) more none (apart j j_old) (All-get_or (IsHeld T D) ps j nowhere j_old is.held)));
      none = none;
      absent = lighter_absent T k T' D ps is.held is.absent more absent;
      bound = let s = lighter_weights ps heavy in let b = is.bound in let l = is.places in omega (arith, s, b, l);
    }

-- ---- a name

-- the first free place, or there is none
free_or_full : (ps : List RefusedName) → let free = position_or_len is_free ps in ((free < length ps) × ((at ps free).count ≡ 0)) ⊎ ((length ps ≤ free) × ((j : ℕ) → j < length ps → 0 < (at ps j).count))
free_or_full ps = elim (cases_lt (position_or_len is_free ps) (length ps)) [
  | inl within ↦ inl (within, eqb-true _ 0 (passes_at_first is_free ps nowhere within))
  | inr past ↦ inr (past, λ j j_in. let taken = eqb-false _ 0 (fails_before_first is_free ps j nowhere (omega arith)) in omega (arith, taken))
]

kept_without : (T : List ℕ → ℕ) (k : List ℕ) (T' : List ℕ → ℕ) (n : ℕ) (r : RefusedNames) (D : ℕ) → n + 1 < 2 ^ 64 → IsKept T n r D → IsOnceMore T k T' → k ≢ no_key → IsAbsent k r.places → (E : ℕ) × IsKept T' (n + 1) (placed r k) E
unfolding placed
kept_without T k T' n r D small is more named absent = let long = is.places in elim (free_or_full r.places) [
  | inl free ↦ let within = free.0 in rw (lt-ltb (position_or_len is_free r.places) 32 (omega (arith, within, long))) (D, kept_placed T k T' n r D (position_or_len is_free r.places) is more named absent free.0 free.1)
  | inr full ↦ let past = full.0 in rw (le-ltb (position_or_len is_free r.places) 32 (omega (arith, past, long))) (D + 1, kept_lighter T k T' n r D small is more named absent full.1)
]

-- a place's numbers go up, as nothing is capped
more_often_is : (p : RefusedName) → p.count + 1 < 2 ^ 64 → p.weight ≤ p.count → ((more_often p).count ≡ p.count + 1) × ((more_often p).weight ≡ p.weight + 1)
more_often_is p small light = (omega arith, omega arith)

pub kept_key : (T : List ℕ → ℕ) (k : List ℕ) (T' : List ℕ → ℕ) (n : ℕ) (r : RefusedNames) (D : ℕ) → n + 1 < 2 ^ 64 → IsKept T n r D → IsOnceMore T k T' → k ≢ no_key → (E : ℕ) × IsKept T' (n + 1) (noted_key r k) E
unfolding noted_key
kept_key T k T' n r D small is more named =
    let ps = r.places in
    let long = is.places in
    let i = position_or_len (has_key k) ps in
    elim (place_of_key k ps) [
      | inl there ↦
          let within = there.0 in
          let held = All-get_or (IsHeld T D) ps i nowhere there.0 is.held in
          let most = get_or-le-sum_by count ps i nowhere there.0 in
          let a = is.all in
          let up = more_often_is (at ps i) (omega (arith, most, a, small)) held.light in
          rw (lt-ltb i 32 (omega (arith, within, long))) (D, kept_grown T k T' n r D i (more_often (at ps i)) is more named there.0 there.1 there.1 up.0 up.1)
      | inr without ↦ let past = without.0 in rw (le-ltb i 32 (omega (arith, past, long))) (kept_without T k T' n r D small is more named without.1)
    ]

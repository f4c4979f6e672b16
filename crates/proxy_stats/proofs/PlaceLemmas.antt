-- One place changed, and all made lighter: what it does to the sums over places, and to their keys.
use Rattle.std.proofs.Common.{◌≡◌, ◌≢◌, ◌⊎◌, inl, inr, ℕ, ◌+◌, ◌-◌, ◌<◌, ◌≤◌, List, [], ◌∷◌, All, get_or, set, length, map, sum_by, refl, sym, ap, ◌∙◌, subst, arith}
use Rattle.std.specs.Prelude.{nat_le}
use Rattle.std.proofs.lemmas.Bool.{cases_Bool, cases_eq, cases_order, leb-true, leb-false}
use Rattle.std.proofs.lemmas.List.{get_or-set_same, get_or-set_other, get_or-map, get_or_default, length-set, length-map}
use Rattle.std.proofs.lemmas.List.Elements.{All-head, All-tail, All-from_get_or}
use Rattle.std.proofs.lemmas.List.Sums.{sum_by-set, sum_by-cons}
use Rattle.proxy_stats.specs.declared.refused_names.RefusedName.{RefusedName}
use Rattle.proxy_stats.specs.RefusedNames.{count, count_of, counted, free_place, has_key, HaveOneNameEach, leaving, lighter, no_key, nowhere}
use Rattle.proxy_stats.proofs.KeyLemmas.{same_keys, other_keys}

abbrev pub weight : RefusedName → ℕ
weight p = p.weight

-- the place of a number
abbrev pub at : List RefusedName → ℕ → RefusedName
at ps i = get_or ps i nowhere

-- ---- what a place counts of a name

pub count_here : (key : List ℕ) (p : RefusedName) → p.key ≡ key → count_of key p ≡ p.count
count_here key p same = rw (same_keys p.key key same) refl

pub count_elsewhere : (key : List ℕ) (p : RefusedName) → p.key ≢ key → count_of key p ≡ 0
count_elsewhere key p other = rw (other_keys p.key key other) refl

pub count_at_most : (key : List ℕ) (p : RefusedName) → count_of key p ≤ p.count
count_at_most key p = elim (cases_Bool (has_key key p)) [ inl is ↦ rw is (omega arith) | inr other ↦ rw other (omega arith) ]

-- ---- lighter

pub lighter_cases : (p : RefusedName) → ((p.weight ≤ 1) × (lighter p ≡ free_place) × (leaving p ≡ p.count)) ⊎ ((1 < p.weight) × (lighter p ≡ record p { weight = p.weight - 1 }) × (leaving p ≡ 0))
lighter_cases p = elim (cases_Bool (nat_le p.weight 1)) [
  | inl is ↦ inl (leb-true p.weight 1 is, rw is refl, rw is refl)
  | inr other ↦ inr (leb-false p.weight 1 other, rw other refl, rw other refl)
]

lighter_count : (p : RefusedName) → (lighter p).count + leaving p ≡ p.count
lighter_count p = elim (lighter_cases p) [ inl leaves ↦ rw (leaves.1) (let (_, _, l) = leaves in omega (arith, l)) | inr stays ↦ rw (stays.1) (let (_, _, l) = stays in omega (arith, l)) ]

lighter_count_of : (key : List ℕ) (p : RefusedName) → count_of key (lighter p) ≤ count_of key p
lighter_count_of key p = elim (lighter_cases p) [ inl leaves ↦ rw (leaves.1) (let most = count_at_most key free_place in omega (arith, most)) | inr stays ↦ rw (stays.1) (omega arith) ]

lighter_weight : (p : RefusedName) → 0 < p.weight → (lighter p).weight + 1 ≡ p.weight
lighter_weight p some = elim (lighter_cases p) [ inl leaves ↦ rw (leaves.1) (omega (arith, leaves.0)) | inr stays ↦ rw (stays.1) (omega (arith, stays.0)) ]

pub lighter_counts : (ps : List RefusedName) → sum_by count (map lighter ps) + sum_by leaving ps ≡ sum_by count ps
lighter_counts [] = refl
lighter_counts (p ∷ ps) = omega (arith, sum_by-cons count (lighter p) (map lighter ps), sum_by-cons leaving p ps, sum_by-cons count p ps, lighter_count p, lighter_counts ps)

pub lighter_counted : (key : List ℕ) (ps : List RefusedName) → counted key (map lighter ps) ≤ counted key ps
lighter_counted key [] = omega arith
lighter_counted key (p ∷ ps) = omega (arith, sum_by-cons (count_of key) (lighter p) (map lighter ps), sum_by-cons (count_of key) p ps, lighter_count_of key p, lighter_counted key ps)

pub lighter_weights : (ps : List RefusedName) → All (λ p. 0 < p.weight) ps → sum_by weight (map lighter ps) + length ps ≡ sum_by weight ps
lighter_weights [] all = refl
lighter_weights (p ∷ ps) all =
    let here = lighter_weight p (All-head (λ (q : RefusedName). 0 < q.weight) p ps all) in
    let rest = lighter_weights ps (All-tail (λ (q : RefusedName). 0 < q.weight) p ps all) in
    omega (arith, sum_by-cons weight (lighter p) (map lighter ps), sum_by-cons weight p ps, here, rest)

pub at_lighter : (ps : List RefusedName) (i : ℕ) → i < length ps → at (map lighter ps) i ≡ lighter (at ps i)
at_lighter ps i within = get_or-map lighter ps i nowhere nowhere within

-- ---- no name has two places

-- the same, at any two numbers
abbrev pub AreApart : List RefusedName → Type 0
AreApart ps = (i j : ℕ) → i < length ps → j < length ps → i ≢ j → (at ps i).key ≡ (at ps j).key → (at ps i).key ≡ no_key

pub apart_from_each : (ps : List RefusedName) → HaveOneNameEach ps → AreApart ps
apart_from_each ps each i j i_in j_in other same = elim (cases_order i j) [
  | inl equal ↦ absurd (other equal)
  | inr way ↦ elim way [ inl below ↦ each i j nowhere below j_in same | inr above ↦ same ∙ each j i nowhere above i_in (sym same) ]
]

pub each_from_apart : (ps : List RefusedName) → AreApart ps → HaveOneNameEach ps
each_from_apart ps apart i j d below j_in same =
    let i_in : i < length ps = omega arith in
    let first = get_or_default ps i d nowhere i_in in
    let second = get_or_default ps j d nowhere j_in in
    ap (λ (p : RefusedName). p.key) first ∙ apart i j i_in j_in (omega arith) (sym (ap (λ (p : RefusedName). p.key) first) ∙ same ∙ ap (λ (p : RefusedName). p.key) second)

pub at_set_same : (ps : List RefusedName) (i : ℕ) (q : RefusedName) → i < length ps → at (set ps i q) i ≡ q
at_set_same ps i q within = get_or-set_same ps i q nowhere within

pub at_set_other : (ps : List RefusedName) (i : ℕ) (q : RefusedName) (j : ℕ) → j ≢ i → at (set ps i q) j ≡ at ps j
at_set_other ps i q j other = get_or-set_other ps i j q nowhere other

-- a place at a number, where one is set
pub at_set_cases : (ps : List RefusedName) (i : ℕ) (q : RefusedName) (j : ℕ) → i < length ps → ((j ≡ i) × (at (set ps i q) j ≡ q)) ⊎ ((j ≢ i) × (at (set ps i q) j ≡ at ps j))
at_set_cases ps i q j within = elim (cases_eq j i) [
  | inl same ↦ inl (same, ap (λ n. at (set ps i q) n) same ∙ at_set_same ps i q within)
  | inr other ↦ inr (other, at_set_other ps i q j other)
]

key_of_place : (p q : RefusedName) → p ≡ q → p.key ≡ q.key
key_of_place p q same = ap (λ (r : RefusedName). r.key) same

pub apart_set : (ps : List RefusedName) (i : ℕ) (q : RefusedName) → i < length ps → AreApart ps → ((j : ℕ) → j < length ps → j ≢ i → (at ps j).key ≡ q.key → q.key ≡ no_key) → AreApart (set ps i q)
apart_set ps i q within apart new j k j_in k_in other same =
    let long = length-set ps i q in
    let j_old : j < length ps = omega (arith, long) in
    let k_old : k < length ps = omega (arith, long) in
    elim (at_set_cases ps i q j within) [
      | inl first ↦ elim (at_set_cases ps i q k within) [
        | inl second ↦ absurd (other (first.0 ∙ sym second.0))
        | inr second ↦ key_of_place _ q first.1 ∙ new k k_old second.0 (sym (key_of_place _ _ second.1) ∙ sym same ∙ key_of_place _ q first.1)
      ]
      | inr first ↦ elim (at_set_cases ps i q k within) [
        | inl second ↦ same ∙ key_of_place _ q second.1 ∙ new j j_old first.0 (sym (key_of_place _ _ first.1) ∙ same ∙ key_of_place _ q second.1)
        | inr second ↦ key_of_place _ _ first.1 ∙ apart j k j_old k_old other (sym (key_of_place _ _ first.1) ∙ same ∙ key_of_place _ _ second.1)
      ]
    ]

-- a lighter place has its key, or none
pub lighter_key : (p : RefusedName) → ((lighter p).key ≡ no_key) ⊎ ((lighter p).key ≡ p.key)
lighter_key p = elim (lighter_cases p) [ inl leaves ↦ inl (key_of_place _ free_place leaves.1) | inr stays ↦ inr (key_of_place _ _ stays.1) ]

pub apart_lighter : (ps : List RefusedName) → AreApart ps → AreApart (map lighter ps)
apart_lighter ps apart i j i_in j_in other same =
    let long = length-map ps lighter in
    let i_old : i < length ps = omega (arith, long) in
    let j_old : j < length ps = omega (arith, long) in
    let here = key_of_place _ _ (at_lighter ps i i_old) in
    let there = key_of_place _ _ (at_lighter ps j j_old) in
    elim (lighter_key (at ps i)) [
      | inl free ↦ here ∙ free
      | inr held ↦ elim (lighter_key (at ps j)) [
        | inl free ↦ same ∙ there ∙ free
        | inr kept ↦ here ∙ held ∙ apart i j i_old j_old other (sym held ∙ sym here ∙ same ∙ there ∙ kept)
      ]
    ]

-- ---- sums, where one place is set

pub sum_set : (f : RefusedName → ℕ) (ps : List RefusedName) (i : ℕ) (q : RefusedName) → i < length ps → sum_by f (set ps i q) + f (at ps i) ≡ sum_by f ps + f q
sum_set f ps i q within = sum_by-set f ps i q nowhere within

-- a fact of each place, where one is set
pub all_set : (Q : RefusedName → Type 0) (ps : List RefusedName) (i : ℕ) (q : RefusedName) → i < length ps → ((j : ℕ) → j < length ps → j ≢ i → Q (at ps j)) → Q q → All Q (set ps i q)
all_set Q ps i q within others here = All-from_get_or Q (set ps i q) nowhere (λ j j_in.
    let long = length-set ps i q in
    let j_old : j < length ps = omega (arith, long) in
    elim (at_set_cases ps i q j within) [
      | inl same ↦ subst Q (sym same.1) here
      | inr other ↦ subst Q (sym other.1) (others j j_old other.0)
    ])

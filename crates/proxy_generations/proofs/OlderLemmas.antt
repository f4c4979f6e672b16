-- Lists of the numbers of generations that drain.
use Rattle.std.proofs.Common.{◌≡◌, ◌<◌, ◌≤◌, ◌+◌, ◌==◌, ◌++◌, ℕ, zero, suc, Bool, true, not, Option, Some, None, option_to_list, List, [], ◌∷◌, length, filter, take, get_or, Contains, All, inl, inr, refl, sym, ap, arith, rules}
use Rattle.std.specs.Prelude.{slice_get}
use Rattle.std.proofs.lemmas.Bool.{lt-ltb, le-ltb, cases_lt, cases_eq, cases_Bool, cond-true, cond-false, eq-eqb, ne_eqb, not_from_true, not_from_false}
use Rattle.std.proofs.lemmas.List.{length-append, length-map, length-take, take_all, take_more, get_or-map}
use Rattle.std.proofs.lemmas.List.Elements.{All-append, All-map, All-filter, All-contains, All-contains_itself, filter_passes}
use Rattle.std.proofs.lemmas.List.Sums.{length-filter, count_by-le-length}
use Rattle.std.proofs.lemmas.Option.{slice_get_within, get_or_from_slice_get}
use Rattle.proxy_generations.specs.Older.{numbers_of, first_if_full}
use Rattle.proxy_generations.specs.declared.opened.Open.{Open}
use Rattle.proxy_generations.specs.declared.older.TheConstants.{MAX_DRAINING}

-- the first of a full list
pub full_first : (ns : List ℕ) (n : ℕ) → first_if_full ns ≡ Some n → (MAX_DRAINING ≤ length ns) × (slice_get ns 0 ≡ Some n)
full_first ns n e = elim (cases_lt (length ns) MAX_DRAINING) [
  | inl less ↦ absurd (let is = lt-ltb (length ns) MAX_DRAINING less in let none = cond-true _ None (slice_get ns 0) is in cc)
  | inr full ↦ (full, let is = le-ltb (length ns) MAX_DRAINING full in let first = cond-false _ None (slice_get ns 0) is in cc)
]

pub first_none : (ns : List ℕ) → length ns < MAX_DRAINING → first_if_full ns ≡ None
first_none ns less = cond-true _ None (slice_get ns 0) (lt-ltb (length ns) MAX_DRAINING less)

pub first_in : (ns : List ℕ) (n : ℕ) → first_if_full ns ≡ Some n → Contains ns n
first_in ns n e =
    let first = (full_first ns n e).1 in
    (0, slice_get_within ns 0 n first, get_or_from_slice_get ns 0 n n first)

-- what a filter keeps
pub length_filter : {X : Type 0} (p : X → Bool) (xs : List X) → length (filter p xs) ≤ length xs
length_filter p xs = rw (length-filter p xs) (count_by-le-length p xs)

pub from_filter : (p : ℕ → Bool) (xs : List ℕ) (n : ℕ) → Contains (filter p xs) n → (p n ≡ true) × Contains xs n
from_filter p xs n c = (
  All-contains (λ x. p x ≡ true) (filter p xs) n (filter_passes p xs) c,
  All-contains (Contains xs) (filter p xs) n (All-filter p (Contains xs) xs (All-contains_itself xs)) c,
)

-- one more in front
shifted : (x n : ℕ) (xs : List ℕ) → Contains xs n → Contains (x ∷ xs) n
shifted x n xs (k, less, e) = (suc k, omega arith, e)

pub filter_has : (p : ℕ → Bool) (xs : List ℕ) (n : ℕ) → p n ≡ true → Contains xs n → Contains (filter p xs) n
filter_has p [] n passes (k, less, e) = absurd (omega arith)
filter_has p (x ∷ xs) n passes (zero, less, e) =
    let is : p x ≡ true = rw e passes in
    rw (cond-true (p x) (x ∷ filter p xs) (filter p xs) is) (0, omega arith, e)
filter_has p (x ∷ xs) n passes (suc k, less, e) =
    let rest = filter_has p xs n passes (k, omega arith, e) in
    elim (cases_Bool (p x)) [
      | inl is ↦ rw (cond-true (p x) (x ∷ filter p xs) (filter p xs) is) (shifted x n (filter p xs) rest)
      | inr is ↦ rw (cond-false (p x) (x ∷ filter p xs) (filter p xs) is) rest
    ]

-- without one of its numbers a list is shorter
pub shorter : (m : ℕ) (xs : List ℕ) → Contains xs m → length (filter (λ k. not (m == k)) xs) < length xs
shorter m [] (k, less, e) = absurd (omega arith)
shorter m (x ∷ xs) (zero, less, e) =
    let is = not_from_true (m == x) (eq-eqb m x (sym e)) in
    let le = length_filter (λ k. not (m == k)) xs in
    rw (cond-false (not (m == x)) (x ∷ filter (λ k. not (m == k)) xs) (filter (λ k. not (m == k)) xs) is) (omega arith)
shorter m (x ∷ xs) (suc k, less, e) = elim (cases_eq m x) [
  | inl same ↦
      let is = not_from_true (m == x) (eq-eqb m x same) in
      let le = length_filter (λ k. not (m == k)) xs in
      rw (cond-false (not (m == x)) (x ∷ filter (λ k. not (m == k)) xs) (filter (λ k. not (m == k)) xs) is) (omega arith)
  | inr differs ↦
      let is = not_from_false (m == x) (ne_eqb m x differs) in
      let rest = shorter m xs (k, omega arith, e) in
      rw (cond-true (not (m == x)) (x ∷ filter (λ k. not (m == k)) xs) (filter (λ k. not (m == k)) xs) is) (omega arith)
]

-- the number of an optional one
pub in_option : (o : Option ℕ) (n : ℕ) → Contains (option_to_list o) n → o ≡ Some n
in_option None n (k, less, e) = absurd (omega arith)
in_option (Some m) n (zero, less, e) = ap Some e
in_option (Some m) n (suc k, less, e) = absurd (omega arith)

pub option_has : (n : ℕ) → Contains (option_to_list (Some n)) n
option_has n = (0, omega arith, refl)

pub length_option : (o : Option ℕ) (xs : List ℕ) → length (xs ++ option_to_list o) ≤ length xs + 1
length_option None xs = omega (arith, length-append xs [])
length_option (Some m) xs = omega (arith, length-append xs (m ∷ []))

-- one that is kept has its number among the numbers
pub number_in : (xs : List Open) (i n : ℕ) (o : Open) → i < length xs → o ≡ get_or xs i o → o.number ≡ n → Contains (numbers_of xs) n
number_in xs i n o less is e =
    let long = length-map xs (λ (o : Open). o.number) in
    let at : get_or (numbers_of xs) i n ≡ (get_or xs i o).number = get_or-map (λ (o : Open). o.number) xs i o n less in
    (i, omega arith, cc)

-- where none kept has a number, that isn't among the numbers
pub number_out : (xs : List Open) (n : ℕ) → All (λ o. o.number ≡ n → ⊥) xs → Contains (numbers_of xs) n → ⊥
number_out xs n all c =
    All-contains (λ k. k ≡ n → ⊥) (numbers_of xs) n (All-map (λ k. k ≡ n → ⊥) (λ (o : Open). o.number) xs all) c refl

-- one further one that has another number
pub number_out_more : (xs : List Open) (i n : ℕ) (d : Open) → i < length xs → ((get_or xs i d).number ≡ n → ⊥)
    → All (λ o. o.number ≡ n → ⊥) (take i xs) → All (λ o. o.number ≡ n → ⊥) (take (i + 1) xs)
number_out_more xs i n d less other all =
    let one : All (λ (o : Open). o.number ≡ n → ⊥) (get_or xs i d ∷ []) = search rules in
    rw (take_more xs i d less) (All-append (λ (o : Open). o.number ≡ n → ⊥) (take i xs) (get_or xs i d ∷ []) all one)

-- at the end of a search
pub number_out_all : (xs ys : List Open) (i n : ℕ) → ys ≡ xs → length ys ≤ i → All (λ o. o.number ≡ n → ⊥) (take i ys)
    → Contains (numbers_of xs) n → ⊥
number_out_all xs ys i n are end all =
    let whole : All (λ o. o.number ≡ n → ⊥) ys = rw (take_all i ys end) at all in
    number_out xs n (rw are at whole)

-- what is kept of the first of a list is no more than these
pub few_filtered : {X : Type 0} (p : X → Bool) (i : ℕ) (xs ys : List X) → ys ≡ filter p (take i xs) → length ys ≤ i
few_filtered p i xs ys are =
    let few = length_filter p (take i xs) in
    let short = length-take i xs in
    let long = ap length are in omega arith

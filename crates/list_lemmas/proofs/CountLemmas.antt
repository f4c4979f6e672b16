-- How many items of a list, or numbers of a range, pass a test.
use Rattle.std.proofs.Common.{◌≡◌, ℕ, zero, suc, ◌+◌, ◌<◌, ◌≤◌, Bool, true, false, ◌||◌, ◌==◌, cond, List, [], ◌∷◌, map, count_by, refl, sym, ap, ◌∙◌, inl, inr, arith, add-zero, add-one, if◌then◌else◌}
use Rattle.std.specs.List.{range_with_len}
use Rattle.std.proofs.lemmas.Bool.{cases_eq, eq-eqb, ne_eqb}
use Rattle.std.proofs.lemmas.List.Sums.{sum_by-cons}

-- the first item, and the others
pub count_by-cons : {X : Type 0} (p : X → Bool) (x : X) (xs : List X) → count_by p (x ∷ xs) ≡ (if p x then 1 else 0) + count_by p xs
count_by-cons p x xs = sum_by-cons (λ y. cond (p y) 1 0) x xs

-- what passes is told by the items that a function is taken of
pub count_by-map : {X Y : Type 0} (p : Y → Bool) (f : X → Y) (xs : List X) → count_by p (map f xs) ≡ count_by (λ x. p (f x)) xs
count_by-map p f [] = refl
count_by-map p f (x ∷ xs) = count_by-cons p (f x) (map f xs) ∙ ap (λ n. (if p (f x) then 1 else 0) + n) (count_by-map p f xs) ∙ sym (count_by-cons (λ y. p (f y)) x xs)

one_most : (b c : Bool) → (b ≡ true → c ≡ true) → (if b then 1 else 0) ≤ (if c then 1 else 0)
one_most true c f = rw (f refl) (omega arith)
one_most false c f = omega arith

-- what passes a test passes the wider one
pub count_by-range_most : (p q : ℕ → Bool) (a n : ℕ) → ((h : ℕ) → a ≤ h → h < a + n → p h ≡ true → q h ≡ true) → count_by p (range_with_len a n) ≤ count_by q (range_with_len a n)
count_by-range_most p q a zero f = omega arith
count_by-range_most p q a (suc n) f =
    rw (count_by-cons p a (range_with_len (a + 1) n), count_by-cons q a (range_with_len (a + 1) n))
    (omega (arith, one_most (p a) (q a) (f a (omega arith) (omega arith)), count_by-range_most p q (a + 1) n (λ h l u. f h (omega arith) (omega arith))))

-- tests that agree at each number of a range
pub count_by-range_same : (p q : ℕ → Bool) (a n : ℕ) → ((h : ℕ) → a ≤ h → h < a + n → p h ≡ q h) → count_by p (range_with_len a n) ≡ count_by q (range_with_len a n)
count_by-range_same p q a zero f = refl
count_by-range_same p q a (suc n) f =
    rw (count_by-cons p a (range_with_len (a + 1) n), count_by-cons q a (range_with_len (a + 1) n), f a (omega arith) (omega arith), count_by-range_same p q (a + 1) n (λ h l u. f h (omega arith) (omega arith))) refl

one_or : (b c : Bool) → (if b || c then 1 else 0) ≤ (if b then 1 else 0) + (if c then 1 else 0)
one_or true true = omega arith
one_or true false = omega arith
one_or false true = omega arith
one_or false false = omega arith

-- what passes one test or the other
pub count_by-or : {X : Type 0} (p q : X → Bool) (xs : List X) → count_by (λ x. p x || q x) xs ≤ count_by p xs + count_by q xs
count_by-or p q [] = omega arith
count_by-or p q (x ∷ xs) =
    rw (count_by-cons (λ y. p y || q y) x xs, count_by-cons p x xs, count_by-cons q x xs) (omega (arith, one_or (p x) (q x), count_by-or p q xs))

count_by-range_behind : (h a n : ℕ) → h < a → count_by (λ k. h == k) (range_with_len a n) ≡ 0
count_by-range_behind h a zero l = refl
count_by-range_behind h a (suc n) l =
    let other : h ≡ a → ⊥ = λ e. absurd (omega arith) in
    rw (count_by-cons (λ k. h == k) a (range_with_len (a + 1) n), ne_eqb h a other, count_by-range_behind h (a + 1) n (omega arith)) refl

-- one number stands there once at most
pub count_by-range_one : (h a n : ℕ) → count_by (λ k. h == k) (range_with_len a n) ≤ 1
count_by-range_one h a zero = omega arith
count_by-range_one h a (suc n) = elim (cases_eq h a) [
  | inl e ↦ rw (count_by-cons (λ k. h == k) a (range_with_len (a + 1) n), eq-eqb h a e, count_by-range_behind h (a + 1) n (omega arith)) (omega arith)
  | inr o ↦ rw (count_by-cons (λ k. h == k) a (range_with_len (a + 1) n), ne_eqb h a o) (omega (arith, count_by-range_one h (a + 1) n))
]

-- one number more at the end
pub count_by-range_last : (p : ℕ → Bool) (a n : ℕ) → count_by p (range_with_len a (suc n)) ≡ count_by p (range_with_len a n) + (if p (a + n) then 1 else 0)
count_by-range_last p a zero = rw add-zero refl
count_by-range_last p a (suc n) =
    let last = count_by-range_last p (a + 1) n in
    let place : (a + 1) + n ≡ a + suc n = omega arith in
    rw (count_by-cons p a (range_with_len (a + 1) (suc n)), count_by-cons p a (range_with_len (a + 1) n), last, place) (omega arith)

-- one number more of those from 0 on
pub count_by-range_more : (p : ℕ → Bool) (i : ℕ) (b : Bool) → p i ≡ b → count_by p (range_with_len 0 (i + 1)) ≡ count_by p (range_with_len 0 i) + (if b then 1 else 0)
count_by-range_more p i b e =
    let place : 0 + i ≡ i = omega arith in
    rw (add-one, count_by-range_last p 0 i, place, e) refl

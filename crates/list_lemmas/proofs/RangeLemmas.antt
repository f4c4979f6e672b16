-- Lists that have an item for each number of a range.
use Rattle.std.proofs.Common.{◌≡◌, ◌<◌, ◌≤◌, ℕ, zero, suc, ◌+◌, List, [], ◌∷◌, map, Some, None, refl, ap, ◌∙◌, subst, arith}
use Rattle.std.specs.Prelude.{slice_get}
use Rattle.std.specs.List.{range_with_len}
use Rattle.list_lemmas.specs.Lists.{changed_at}

-- functions that agree at each item
pub map-same : {X Y : Type 0} (f g : X → Y) (xs : List X) → ((x : X) → f x ≡ g x) → map f xs ≡ map g xs
map-same f g [] e = refl
map-same f g (x ∷ xs) e = rw (e x, map-same f g xs e) refl

-- functions that agree at each number of a range
pub map-range_same : {X : Type 0} (f g : ℕ → X) (a n : ℕ) → ((j : ℕ) → a ≤ j → j < a + n → f j ≡ g j) → map f (range_with_len a n) ≡ map g (range_with_len a n)
map-range_same f g a zero e = refl
map-range_same f g a (suc n) e = rw (e a (omega arith) (omega arith), map-range_same f g (a + 1) n (λ j l m. e j (omega (arith, l)) (omega (arith, m)))) refl

changed_at-range : {X : Type 0} (f g : ℕ → X) (change : X → X) (a n k : ℕ) → (k < n → g (a + k) ≡ change (f (a + k)))
    → ((j : ℕ) → a ≤ j → j < a + n → (j ≡ a + k → ⊥) → f j ≡ g j) → changed_at change k (map f (range_with_len a n)) ≡ map g (range_with_len a n)
changed_at-range f g change a zero k e o = refl
changed_at-range f g change a (suc n) zero e o =
    let here : a + 0 ≡ a = omega arith in
    let first : g a ≡ change (f a) = subst (λ (z : ℕ). g z ≡ change (f z)) here (e (omega arith)) in
    rw (first, map-range_same f g (a + 1) n (λ j l m. o j (omega (arith, l)) (omega (arith, m)) (λ q. omega (arith, l, q)))) refl
changed_at-range f g change a (suc n) (suc k) e o =
    let there : a + suc k ≡ (a + 1) + k = omega arith in
    rw (o a (omega arith) (omega arith) (λ q. omega (arith, q)))
    (ap (λ z. g a ∷ z) (changed_at-range f g change (a + 1) n k
    (λ l. subst (λ (z : ℕ). g z ≡ change (f z)) there (e (omega (arith, l))))
    (λ j l m q. o j (omega (arith, l)) (omega (arith, m)) (λ r. q (omega (arith, r))))))

-- one item of a table changes, and the others stay
pub changed_at-table : {X : Type 0} (f g : ℕ → X) (change : X → X) (n k : ℕ) → (k < n → g k ≡ change (f k))
    → ((j : ℕ) → j < n → (j ≡ k → ⊥) → f j ≡ g j) → changed_at change k (map f (range_with_len 0 n)) ≡ map g (range_with_len 0 n)
changed_at-table f g change n k e o = changed_at-range f g change 0 n k (λ l. subst (λ (z : ℕ). g z ≡ change (f z)) (omega arith) (e l))
    (λ j l m q. o j (omega (arith, m)) (λ r. q (omega (arith, r))))

slice_get-range : {X : Type 0} (f : ℕ → X) (a n k : ℕ) → k < n → slice_get (map f (range_with_len a n)) k ≡ Some (f (a + k))
slice_get-range f a zero k l = absurd (omega (arith, l))
slice_get-range f a (suc n) zero l = ap (λ z. Some (f z)) (omega arith)
slice_get-range f a (suc n) (suc k) l = slice_get-range f (a + 1) n k (omega (arith, l)) ∙ ap (λ z. Some (f z)) (omega arith)

-- the item of a number
pub slice_get-table : {X : Type 0} (f : ℕ → X) (n k : ℕ) → k < n → slice_get (map f (range_with_len 0 n)) k ≡ Some (f k)
slice_get-table f n k l = slice_get-range f 0 n k l ∙ ap (λ z. Some (f z)) (omega arith)

-- no item stands past the last number
pub slice_get-past_range : {X : Type 0} (f : ℕ → X) (a n k : ℕ) → n ≤ k → slice_get (map f (range_with_len a n)) k ≡ None
slice_get-past_range f a zero k l = refl
slice_get-past_range f a (suc n) zero l = absurd (omega (arith, l))
slice_get-past_range f a (suc n) (suc k) l = slice_get-past_range f (a + 1) n k (omega (arith, l))

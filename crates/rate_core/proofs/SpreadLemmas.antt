-- The sum of squared distances.
use Rattle.std.proofs.Common.{◌≡◌, ℕ, ◌+◌, ◌-◌, ◌*◌, ◌<◌, ◌&&◌, true, nat_lt, List, [], ◌∷◌, length, sum, sum_by, ap, ◌∙◌, inl, inr, arith}
use Rattle.std.proofs.lemmas.Bool.{cases_lt, and_parts, and_from, ltb-true, lt-ltb}
use Rattle.std.proofs.lemmas.List.Sums.{sum_by-cons}
use Rattle.std.proofs.Math.Nat.{mul-le-mul_left, mul-lt-mul_of_pos_left, lt_of_mul-lt-mul_left, mul_left_comm}
use Rattle.rate_core.specs.Outlier.{square, squared_distance}
use Rattle.rate_core.specs.Laws.{spread, FarBelowIsByDeviation}

gap : (a k : ℕ) → square k + 2 * (a * (a + k)) ≡ a * a + (a + k) * (a + k)
gap a k = omega arith

below : (a s k : ℕ) → s ≡ a + k → squared_distance a s + 2 * (a * s) ≡ a * a + s * s
below a s k e =
    let none : a - s ≡ 0 = omega arith in
    let rest : s - a ≡ k = omega arith in
    rw (none, rest, e) (omega (arith, gap a k))

above : (a s k : ℕ) → a ≡ s + k → squared_distance a s + 2 * (a * s) ≡ a * a + s * s
above a s k e =
    let none : s - a ≡ 0 = omega arith in
    let rest : a - s ≡ k = omega arith in
    rw (none, rest, e) (omega (arith, gap s k))

pub distance : (a s : ℕ) → squared_distance a s + 2 * (a * s) ≡ a * a + s * s
distance a s = elim (cases_lt a s) [
  | inl l ↦ below a s (s - a) (omega arith)
  | inr g ↦ above a s (a - s) (omega arith)
]

pub distances : (c s : ℕ) (xs : List ℕ)
    → sum_by (λ x. squared_distance (c * x) s) xs + 2 * (c * s * sum xs) ≡ c * c * sum_by square xs + length xs * (s * s)
distances c s [] = omega arith
distances c s (x ∷ xs) =
    rw (sum_by-cons (λ x. squared_distance (c * x) s) x xs, sum_by-cons (λ x. x) x xs, sum_by-cons square x xs)
    (omega (arith, distances c s xs, distance (c * x) s))

-- what n times a difference is
scaled : (n a b c : ℕ) → c + n * b ≡ n * a → c ≡ n * (a - b)
scaled n a b c e = elim (cases_lt a b) [
  | inl l ↦ (let none : a - b ≡ 0 = omega arith in let more = mul-le-mul_left n l in rw none (omega (arith, more, e)))
  | inr g ↦ (let parts : (a - b) + b ≡ a = omega arith in let same = ap (λ k. n * k) parts in omega (arith, same, e))
]

pub spread_is : (all : List ℕ) → spread all ≡ length all * (length all * sum_by square all - square (sum all))
spread_is all =
    scaled (length all) (length all * sum_by square all) (square (sum all)) (spread all)
    (omega (arith, distances (length all) (sum all) all))

-- from here on a test is a comparison, scaled by the number of the rates
tests : (n total rate v d : ℕ) → (nat_lt (n * rate) total && nat_lt v d) ≡ true → (n * rate < total) × (v < d)
tests n total rate v d e = let both = and_parts _ _ e in (ltb-true _ _ both.0, ltb-true _ _ both.1)

some_rates : (all : List ℕ) (k : ℕ) → k < sum all → 0 < length all
some_rates [] k l = omega (arith, l)
some_rates (x ∷ xs) k l = omega arith

abbrev far : List ℕ → ℕ → ℕ → ℕ
far all rate factor = square (sum all - length all * rate) * 1000000

abbrev near : List ℕ → ℕ → ℕ
near all factor = square factor * (length all * sum_by square all - square (sum all))

distance_below : (a s : ℕ) → a < s → squared_distance a s ≡ square (s - a)
distance_below a s l = let none : a - s ≡ 0 = omega arith in rw none (omega arith)

near_scaled : (all : List ℕ) (factor : ℕ) → square factor * spread all ≡ length all * near all factor
near_scaled all factor =
    ap (λ k. square factor * k) (spread_is all) ∙ mul_left_comm (square factor) (length all) (length all * sum_by square all - square (sum all))

pub far_below_is : FarBelowIsByDeviation
far_below_is all factor rate = (
  (λ e.
      let t = tests (length all) (sum all) rate (near all factor) (far all rate factor) e in
      (t.0, rw (near_scaled all factor, distance_below (length all * rate) (sum all) t.0) (mul-lt-mul_of_pos_left t.1 (some_rates all _ t.0)))),
  (λ p.
      let scaled_up : length all * near all factor < length all * far all rate factor = rw (near_scaled all factor, distance_below (length all * rate) (sum all) p.0) at p.1 in
      and_from _ _ (lt-ltb _ _ p.0) (lt-ltb _ _ (lt_of_mul-lt-mul_left (length all) scaled_up))),
)

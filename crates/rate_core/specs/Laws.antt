-- What the definitions say in the words of statistics.
use Rattle.std.specs.Prelude.{◌≡◌, ◌↔◌, ℕ, true, ◌-◌, ◌*◌, ◌<◌, List, length, sum, sum_by}
use Rattle.rate_core.specs.Outlier.{square, squared_distance, is_far_below}

-- the sum of the squared distances from the mean, each rate and the mean taken n times
abbrev pub spread : List ℕ → ℕ
spread all = sum_by (λ x. squared_distance (length all * x) (sum all)) all

-- n times the sum of squares less the square of the sum is the variance, taken n * n times
abbrev pub SpreadIsVariance : Type 0
SpreadIsVariance = (all : List ℕ) → spread all ≡ length all * (length all * sum_by square all - square (sum all))

-- a rate is far below exactly if it is below the mean, and the square of its distance from the mean
-- is more than (factor / 1000) * (factor / 1000) times the mean of all squared distances from it
abbrev pub FarBelowIsByDeviation : Type 0
FarBelowIsByDeviation = (all : List ℕ) (factor rate : ℕ) → (is_far_below all factor rate ≡ true)
    ↔ ((length all * rate < sum all) × (square factor * spread all < length all * (squared_distance (length all * rate) (sum all) * 1000000)))

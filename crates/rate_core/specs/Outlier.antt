-- Which rates are far below the others.
use Rattle.std.specs.Prelude.{ℕ, Bool, false, ◌+◌, ◌-◌, ◌*◌, ◌&&◌, nat_lt, List, Option, Some, None, length, sum, sum_by, get_or}
use Rattle.std.specs.List.{filter_map}

-- the rates that are there
abbrev pub known_rates : List (Option ℕ) → List ℕ
known_rates rates = filter_map (λ r. r) rates

-- a number times itself
abbrev pub square : ℕ → ℕ
square x = x * x

-- the square of a number's distance from another
abbrev pub squared_distance : ℕ → ℕ → ℕ
squared_distance a b = square (a - b) + square (b - a)

-- whether a rate is below the mean of all by more than factor thousandths of their standard deviation:
-- n times the mean is the sum, and n * n times the variance is n times the sum of squares, less the square of the sum
abbrev pub is_far_below : List ℕ → ℕ → ℕ → Bool
is_far_below all factor rate =
    let n = length all in
    let total = sum all in
    let squares = sum_by square all in
    nat_lt (n * rate) total && nat_lt (square factor * (n * squares - square total)) (square (total - n * rate) * 1000000)

-- the same of a host's rate, if it has one
abbrev pub is_rate_far_below : List ℕ → ℕ → Option ℕ → Bool
is_rate_far_below all factor None = false
is_rate_far_below all factor (Some rate) = is_far_below all factor rate

-- whether a host is an outlier
abbrev pub is_outlier : List (Option ℕ) → ℕ → ℕ → Bool
is_outlier rates host factor = is_rate_far_below (known_rates rates) factor (get_or rates host None)

-- Which histogram is that of some values.
use Rattle.std.specs.Prelude.{◌≡◌, ℕ, ◌+◌, ◌-◌, ◌^◌, ◌<◌, min, nat_le, if◌then◌else◌, List, length, sum, count_by, slice_index}
use Rattle.proxy_histogram.specs.declared.histogram.Histogram.{Histogram}
use Rattle.proxy_histogram.specs.declared.histogram.TheConstants.{BOUNDS_US}

-- the number, or the greatest `u64` where it is more
abbrev pub capped : ℕ → ℕ
capped n = min n (2 ^ 64 - 1)

-- how many of the values are at most the bound
abbrev pub number_at_most : ℕ → List ℕ → ℕ
number_at_most bound values = count_by (λ v. nat_le v bound) values

-- For each bound it is counted how many values are at most it, and how many there are and their sum, as far as a `u64` goes.
pub record IsOf (values : List ℕ) (h : Histogram) : Type 0 where
  pub at_most : (i : ℕ) → i < 18 → slice_index h.at_most i ≡ capped (number_at_most (slice_index BOUNDS_US i) values)
  pub total : h.total ≡ capped (length values)
  pub sum_us : h.sum_us ≡ capped (sum values)

-- ---- one value more, so many times

-- a number of values that are at most the bound, with so many of this one
abbrev pub with_times : ℕ → ℕ → ℕ → ℕ → ℕ
with_times v times bound n = capped (n + (if nat_le v bound then times else 0))

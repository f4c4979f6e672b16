-- What share of the results is good, in millionths, rounded down.
use Rattle.std.specs.Prelude.{ℕ, ◌*◌, ◌/◌, ◌==◌, if◌then◌else◌, Option, Some, None}

-- the share of good results in millionths, rounded down; none of no results
abbrev pub rate_of : ℕ → ℕ → Option ℕ
rate_of ok total = if total == 0 then None else Some (1000000 * ok / total)

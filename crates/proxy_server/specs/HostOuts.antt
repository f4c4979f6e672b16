-- How many lines of generations have each host out.
use Rattle.std.specs.Prelude.{ℕ, ◌+◌, ◌-◌, Bool, List, slice_index_or, if◌then◌else◌}
use Rattle.proxy_stats.specs.Sums.{capped_sum}

-- the number of lines that have a host out
abbrev pub lines_out : List ℕ → ℕ → ℕ
lines_out lines host = slice_index_or lines host 0

-- this number, once one line more has it out, or one has it back
abbrev pub lines_after : Bool → ℕ → ℕ
lines_after is_out lines = if is_out then capped_sum (lines + 1) else lines - 1

use Rattle.std.proofs.Common.{◌≡◌, ℕ, ◌+◌, ◌<◌, get_or, length}
use Rattle.proxy_stats.specs.Sums.{capped_sum}
use Rattle.proxy_stats.proofs.tally.joined_numbers.Given as goal

-- those so far are joined
abbrev pub invariant-loop-i : goal.invariant-loop-i
invariant-loop-i l = (length l.joined ≡ 7) × ((k : ℕ) → k < l.i → get_or l.joined k 0 ≡ capped_sum (get_or l.one k 0 + get_or l.other k 0))

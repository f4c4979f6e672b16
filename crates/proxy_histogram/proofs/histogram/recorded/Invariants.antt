use Rattle.std.proofs.Common.{◌≡◌, ℕ, ◌<◌, get_or, length}
use Rattle.proxy_histogram.specs.Values.{with_times}
use Rattle.proxy_histogram.specs.declared.histogram.TheConstants.{BOUNDS_US}
use Rattle.proxy_histogram.proofs.histogram.recorded.Given as goal

-- those so far have the value
abbrev pub invariant-loop-i : goal.invariant-loop-i
invariant-loop-i l = (length l.more ≡ 18) × ((k : ℕ) → k < l.i → get_or l.more k 0 ≡ with_times l.us l.times (get_or BOUNDS_US k 0) (get_or l.at_most k 0))

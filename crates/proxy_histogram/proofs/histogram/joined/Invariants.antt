use Rattle.std.proofs.Common.{◌≡◌, ℕ, ◌+◌, ◌<◌, get_or, length}
use Rattle.proxy_histogram.specs.Values.{capped}
use Rattle.proxy_histogram.proofs.histogram.joined.Given as goal

-- those so far are joined
abbrev pub invariant-loop-i : goal.invariant-loop-i
invariant-loop-i l = (length l.both ≡ 18) × ((k : ℕ) → k < l.i → get_or l.both k 0 ≡ capped (get_or l.one k 0 + get_or l.other k 0))

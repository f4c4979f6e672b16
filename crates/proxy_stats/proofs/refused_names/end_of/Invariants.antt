use Rattle.std.proofs.Common.{◌≡◌, ◌<◌, ℕ, get_or}
use Rattle.std.specs.Prelude.{◌==◌, false}
use Rattle.proxy_stats.proofs.refused_names.end_of.Given as goal

-- no byte so far is zero
abbrev pub invariant-loop-i : goal.invariant-loop-i
invariant-loop-i l = (k : ℕ) → k < l.i → (get_or l.key k 0 == 0) ≡ false

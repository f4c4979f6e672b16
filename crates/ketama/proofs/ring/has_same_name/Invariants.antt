use Rattle.std.proofs.Common.{◌≡◌, ℕ, ◌<◌, slice_get}
use Rattle.ketama.proofs.ring.has_same_name.Given as goal

-- the names so far differ
abbrev pub invariant-loop-j : goal.invariant-loop-j
invariant-loop-j l = (i k : ℕ) → i < k → k < l.j → slice_get l.names i ≡ slice_get l.names k → ⊥

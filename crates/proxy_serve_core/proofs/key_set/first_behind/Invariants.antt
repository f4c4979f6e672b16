use Rattle.std.proofs.Common.{ℕ, ◌+◌, ◌*◌, ◌<◌, ◌≤◌}
use Rattle.proxy_serve_core.specs.KeySet.{Has}
use Rattle.proxy_serve_core.proofs.key_set.first_behind.Given as goal

abbrev pub invariant-loop-next : goal.invariant-loop-next
invariant-loop-next l = (key : ℕ) → 64 * l.index + 64 ≤ key → key < 64 * l.next → ¬ (Has l.words key)

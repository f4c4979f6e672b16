use Rattle.std.proofs.Common.{◌≡◌, ◌<◌, ℕ, get_or, length}
use Rattle.std.specs.Char.{to_ascii_lowercase}
use Rattle.proxy_stats.proofs.refused_names.key_of.Given as goal

-- the bytes so far are those of the name in lower case
abbrev pub invariant-loop-i : goal.invariant-loop-i
invariant-loop-i l = (length l.key ≡ 32) × ((k : ℕ) → k < l.i → get_or l.key k 0 ≡ to_ascii_lowercase (get_or l.name k 0))

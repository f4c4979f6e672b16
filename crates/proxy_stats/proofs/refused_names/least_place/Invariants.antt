use Rattle.std.proofs.Common.{◌≤◌, ◌<◌, ℕ, get_or, length}
use Rattle.proxy_stats.specs.declared.refused_names.RefusedName.{RefusedName}
use Rattle.proxy_stats.proofs.refused_names.least_place.Given as goal

-- none of the places so far counts less
abbrev pub invariant-loop-i : goal.invariant-loop-i
invariant-loop-i l = (l.least < length l.places) × ((j : ℕ) (d : RefusedName) → j < l.i → (get_or l.places l.least d).count ≤ (get_or l.places j d).count)

use Rattle.std.proofs.Common.{◌≡◌, ◌<◌, ℕ, get_or}
use Rattle.std.specs.Prelude.{false}
use Rattle.proxy_stats.specs.RefusedNames.{is_free}
use Rattle.proxy_stats.specs.declared.refused_names.RefusedName.{RefusedName}
use Rattle.proxy_stats.proofs.refused_names.free_place.Given as goal

-- the places so far are others
abbrev pub invariant-loop-i : goal.invariant-loop-i
invariant-loop-i l = (k : ℕ) (d : RefusedName) → k < l.i → is_free (get_or l.places k d) ≡ false

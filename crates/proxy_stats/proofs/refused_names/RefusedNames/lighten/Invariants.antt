use Rattle.std.proofs.Common.{◌≡◌, ◌+◌, ◌++◌, map, take, drop, sum_by, length}
use Rattle.proxy_stats.specs.RefusedNames.{capped, leaving, lighter}
use Rattle.proxy_stats.proofs.refused_names.RefusedNames.lighten.Given as goal

-- the places so far are lighter, and what they gave is counted
abbrev pub invariant-loop-i : goal.invariant-loop-i
invariant-loop-i l =
    (l.self.places ≡ map lighter (take l.i l.fn.self.places) ++ drop l.i l.fn.self.places)
    × (l.self.others ≡ capped (l.fn.self.others + 1 + sum_by leaving (take l.i l.fn.self.places)))
    × (length l.self.places ≡ length l.fn.self.places)

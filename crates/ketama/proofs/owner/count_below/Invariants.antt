use Rattle.std.proofs.Common.{◌+◌, ◌<◌, ◌≤◌, length}
use Rattle.std.specs.List.{AllWithin}
use Rattle.ketama.proofs.owner.count_below.Given as goal

-- the pairs so far are below the point, and those behind the unknown ones are not
abbrev pub invariant-loop-unknown : goal.invariant-loop-unknown
invariant-loop-unknown l =
    (l.below + l.unknown ≤ length l.pairs)
    × AllWithin (λ pair. pair.0 < l.point) l.pairs 0 l.below
    × AllWithin (λ pair. l.point ≤ pair.0) l.pairs (l.below + l.unknown) (length l.pairs)

abbrev pub decreases-loop-unknown : goal.decreases-loop-unknown
decreases-loop-unknown l = l.unknown

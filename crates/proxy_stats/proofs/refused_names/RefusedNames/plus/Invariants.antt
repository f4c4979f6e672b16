use Rattle.std.proofs.Common.{take}
use Rattle.proxy_stats.proofs.AddLemmas.{AreAddedSoFar}
use Rattle.proxy_stats.proofs.refused_names.RefusedNames.plus.Given as goal

-- the other's places so far are added
abbrev pub invariant-loop-place : goal.invariant-loop-place
invariant-loop-place l = AreAddedSoFar l.self (take l.place-index l.other.places) l.sum

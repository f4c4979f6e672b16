use Rattle.std.proofs.Common.{◌∷◌, map, take}
use Rattle.proxy_server.specs.CountSums.{AreSums}
use Rattle.proxy_server.proofs.living.counts.Given as goal

-- those so far are added
abbrev pub invariant-loop-one : goal.invariant-loop-one
invariant-loop-one l = AreSums (l.past ∷ map (λ x. x.counts) (take l.one-index l.living)) l.counts

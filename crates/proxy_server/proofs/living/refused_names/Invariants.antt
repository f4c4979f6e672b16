use Rattle.std.proofs.Common.{◌∷◌, map, take}
use Rattle.proxy_server.specs.NameSums.{AreNameSums}
use Rattle.proxy_server.proofs.living.refused_names.Given as goal

-- those so far are added
abbrev pub invariant-loop-one : goal.invariant-loop-one
invariant-loop-one l = AreNameSums (l.past ∷ map (λ x. x.refused_names) (take l.one-index l.living)) l.names

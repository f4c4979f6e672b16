use Rattle.std.proofs.Common.{◌≡◌, ◌++◌, ◌∷◌, ◌+◌, ◌*◌, [], drop, map, codes}
use Rattle.resp_core.specs.Command.{payload_of}
use Rattle.splitter.specs.Split.{pairs, part_at}
use Rattle.splitter.proofs.parts.pair_parts.Given as goal

abbrev pub invariant-loop-pair : goal.invariant-loop-pair
invariant-loop-pair l =
    l.parts.items ++ map (λ p. part_at 1 (codes "SET" ∷ p.0 ∷ p.1 ∷ [])) (pairs (drop (2 * l.pair + 1) (map payload_of l.words))) ≡ map (λ p. part_at 1 (codes "SET" ∷ p.0 ∷ p.1 ∷ [])) (pairs (drop 1 (map payload_of l.words)))

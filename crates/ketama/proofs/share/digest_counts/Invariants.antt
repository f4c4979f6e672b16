use Rattle.std.proofs.Common.{◌≡◌, ◌*◌, ◌/◌, length, map, take, sum}
use Rattle.ketama.proofs.share.digest_counts.Given as goal

-- the counts of the hosts so far
abbrev pub invariant-loop-weight : goal.invariant-loop-weight
invariant-loop-weight l = l.counts.items ≡ map (λ w. 40 * length l.weights * w / sum l.weights) (take l.weight-index l.weights)

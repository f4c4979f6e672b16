use Rattle.std.proofs.Common.{◌≡◌}
use Rattle.ketama.specs.Ketama.{ring_pairs}
use Rattle.ketama.proofs.point.unordered_pairs.Given as goal

abbrev pub invariant-loop-host : goal.invariant-loop-host
invariant-loop-host l = l.pairs.items ≡ ring_pairs l.names l.counts l.host

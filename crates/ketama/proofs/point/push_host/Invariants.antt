use Rattle.std.proofs.Common.{◌≡◌, ◌++◌}
use Rattle.ketama.specs.Ketama.{host_pairs}
use Rattle.ketama.proofs.point.push_host.Given as goal

abbrev pub invariant-loop-k : goal.invariant-loop-k
invariant-loop-k l = l.pairs.items ≡ l.fn.pairs.items ++ host_pairs l.name l.host l.k

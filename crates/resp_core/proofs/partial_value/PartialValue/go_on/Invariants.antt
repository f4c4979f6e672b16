use Rattle.std.proofs.Common.{ℕ, List}
use Rattle.resp_core.specs.PartialValue.{Reads, IsGood, to_do}
use Rattle.resp_core.proofs.partial_value.PartialValue.go_on.Given as goal

abbrev pub invariant-loop-value : goal.invariant-loop-value
invariant-loop-value l = record {
  good : IsGood l.most l.self;
  reads : (held : List ℕ) → Reads l.most held l.fn.self → Reads l.most held l.self;
}

abbrev pub decreases-loop-value : goal.decreases-loop-value
decreases-loop-value l = to_do l.self

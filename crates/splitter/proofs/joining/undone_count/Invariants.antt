-- Up to here each value is counted.
use Rattle.std.proofs.Common.{◌≡◌, ◌+◌, count_by, drop, map, not}
use Rattle.resp_core.specs.Value.{tree_of}
use Rattle.splitter.specs.Join.{is_done}
use Rattle.splitter.proofs.joining.undone_count.Given as goal

abbrev pub invariant-loop-value : goal.invariant-loop-value
invariant-loop-value l = record {
  counted : l.count + count_by (λ t. not (is_done t)) (map tree_of (drop l.value-index l.fn.values))
      ≡ count_by (λ t. not (is_done t)) (map tree_of l.fn.values);
}

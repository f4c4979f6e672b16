use Rattle.std.proofs.Common.{◌≡◌, ◌+ℤ◌, ◌≤ℤ◌, pos, ◌*◌, ◌^◌, drop, map}
use Rattle.resp_core.specs.Value.{tree_of}
use Rattle.splitter.specs.Join.{total}
use Rattle.splitter.proofs.joining.total.Given as goal

abbrev pub invariant-loop-value : goal.invariant-loop-value
invariant-loop-value l = record {
  same : l.sum +ℤ total (map tree_of (drop l.value-index l.values)) ≡ total (map tree_of l.values);
  low : pos 0 ≤ℤ (l.sum +ℤ pos (l.value-index * 2 ^ 63));
  high : l.sum ≤ℤ pos (l.value-index * 2 ^ 63);
}

use Rattle.std.proofs.Common.{◌≡◌, ◌≤◌, ℕ, List, length}
use Rattle.resp_core.specs.Value.{tree_of}
use Rattle.resp_core.specs.Reading.{found}
use Rattle.resp_core.specs.OpenLists.{nested_outcome}
use Rattle.resp_core.proofs.begun.put.Given as goal

abbrev pub invariant-loop-list : goal.invariant-loop-list
invariant-loop-list l = record {
  same : (most left : ℕ) (rest : List ℕ) → length l.fn.opens.items ≤ left → nested_outcome most left l.fn.opens.items (found (tree_of l.fn.value) rest) ≡ nested_outcome most left l.opens.items (found (tree_of l.value) rest);
  fewer : length l.opens.items ≤ length l.fn.opens.items;
}

abbrev pub decreases-loop-list : goal.decreases-loop-list
decreases-loop-list l = length l.opens.items

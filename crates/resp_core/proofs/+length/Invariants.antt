use Rattle.std.proofs.Common.{◌≡◌, ◌+◌, ◌<◌, ◌^◌, length, map, drop}
use Rattle.resp_core.specs.Stream.{told_offset}
use Rattle.resp_core.specs.Text.{texts}
use Rattle.resp_core.specs.Tree.{trees_of}
use Rattle.resp_core.specs.Value.{tree_of}
use Rattle.resp_core.proofs.+length.Given as goal

abbrev pub invariant-text::members_len-loop-value : goal.invariant-text::members_len-loop-value
invariant-text::members_len-loop-value l = record {
  same : told_offset (l.total + length (texts (trees_of (map tree_of (drop l.value-index l.value-items))))) ≡ told_offset (length (texts (trees_of l.values)));
  fits : l.total < 2 ^ 64;
}

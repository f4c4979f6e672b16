use Rattle.std.proofs.Common.{◌≡◌, ◌++◌, drop, map}
use Rattle.resp_core.specs.Value.{tree_of}
use Rattle.splitter.specs.Join.{in_place}
use Rattle.splitter.proofs.joining.in_places.Given as goal

abbrev pub invariant-loop-value : goal.invariant-loop-value
invariant-loop-value l = map tree_of l.places.items ++ map in_place (map tree_of (drop l.value-index l.values)) ≡ map in_place (map tree_of l.values)

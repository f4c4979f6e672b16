use Rattle.std.proofs.Common.{◌≡◌, ◌++◌, [], drop, filter, map}
use Rattle.std.specs.Prelude.{option_map}
use Rattle.resp_core.specs.Value.{tree_of}
use Rattle.proxy_history.specs.Outcome.{is_part_of, values_of}
use Rattle.test_reference.specs.Scan.{parts_of, past_of_scan}
use Rattle.test_reference.proofs.value.values_of.Given as goal

abbrev pub invariant-loop-part : goal.invariant-loop-part
invariant-loop-part l =
    option_map (λ more. map tree_of l.values.items ++ more) (values_of (past_of_scan l.steps [] l.replay) (filter (is_part_of l.conn l.index) (parts_of (drop l.part-index l.part-items))))
    ≡ values_of (past_of_scan l.steps [] l.replay) (filter (is_part_of l.conn l.index) (parts_of l.replay.parts.items))

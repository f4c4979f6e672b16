use Rattle.std.proofs.Common.{◌≡◌, ◌≤◌, [], take, filter, length}
use Rattle.proxy_history.specs.Waiting.{waits}
use Rattle.test_reference.specs.Scan.{parts_of, past_of_scan}
use Rattle.test_reference.proofs.pipe.waiting.Given as goal

abbrev pub invariant-loop-part : goal.invariant-loop-part
invariant-loop-part l = record {
  count : l.count ≡ length (filter (waits l.fn.host (past_of_scan l.fn.steps [] l.fn.replay)) (parts_of (take l.part-index l.fn.replay.parts.items)));
  few : l.count ≤ l.part-index;
}

use Rattle.std.proofs.Common.{◌≡◌, [], drop, filter}
use Rattle.proxy_history.specs.Waiting.{waits}
use Rattle.test_reference.specs.Scan.{parts_of, first_of, past_of_scan}
use Rattle.test_reference.proofs.pipe.first_waiting.Given as goal

abbrev pub invariant-loop-part : goal.invariant-loop-part
invariant-loop-part l = first_of (filter (waits l.fn.host (past_of_scan l.fn.steps [] l.fn.replay)) (parts_of l.fn.replay.parts.items)) ≡ first_of (filter (waits l.fn.host (past_of_scan l.fn.steps [] l.fn.replay)) (parts_of (drop l.part-index l.fn.replay.parts.items)))

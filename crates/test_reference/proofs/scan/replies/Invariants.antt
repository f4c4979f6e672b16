use Rattle.std.proofs.Common.{◌≡◌, ◌≤◌, take, length}
use Rattle.proxy_history.specs.Replies.{replies_from}
use Rattle.test_reference.specs.Scan.{history_of}
use Rattle.test_reference.proofs.scan.replies.Given as goal

abbrev pub invariant-loop-step : goal.invariant-loop-step
invariant-loop-step l = record {
  count : l.count ≡ length (replies_from l.fn.host l.fn.epoch (history_of (take l.step-index l.fn.steps)));
  few : l.count ≤ l.step-index;
}

use Rattle.std.proofs.Common.{◌≡◌, ◌≤◌, take, filter, length}
use Rattle.proxy_history.specs.Part.{is_of}
use Rattle.test_reference.specs.Scan.{parts_of}
use Rattle.test_reference.proofs.pipe.sent.Given as goal

abbrev pub invariant-loop-part : goal.invariant-loop-part
invariant-loop-part l = record {
  count : l.count ≡ length (filter (is_of l.fn.host l.fn.epoch) (parts_of (take l.part-index l.fn.replay.sent.items)));
  few : l.count ≤ l.part-index;
}

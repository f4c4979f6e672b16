-- So many of those before are of the pipe.
use Rattle.std.proofs.Common.{◌≡◌, ◌≤◌, length, filter, take}
use Rattle.proxy_history.specs.Part.{is_of}
use Rattle.test_reference.specs.Scan.{parts_of}
use Rattle.test_reference.proofs.arrival.count_of.Given as goal

abbrev pub invariant-loop-part : goal.invariant-loop-part
invariant-loop-part l = record {
  count : l.count ≡ length (filter (is_of l.host l.epoch) (parts_of (take l.part-index l.parts)));
  few : l.count ≤ l.part-index;
}

use Rattle.std.proofs.Common.{◌≡◌, ◌≤◌, drop, filter}
use Rattle.proxy_history.specs.Part.{is_of}
use Rattle.test_reference.specs.Scan.{part_of, parts_of, place_in}
use Rattle.test_reference.proofs.PartSearchLemmas.{moved}
use Rattle.test_reference.proofs.pipe.place.Given as goal

abbrev pub invariant-loop-other : goal.invariant-loop-other
invariant-loop-other l = record {
  place : place_in (part_of l.fn.part) (filter (is_of l.fn.host l.fn.part.epoch) (parts_of l.fn.replay.sent.items))
      ≡ moved l.before (place_in (part_of l.fn.part) (filter (is_of l.fn.host l.fn.part.epoch) (parts_of (drop l.other-index l.fn.replay.sent.items))));
  few : l.before ≤ l.other-index;
}

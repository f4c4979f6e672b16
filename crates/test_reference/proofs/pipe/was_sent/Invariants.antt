use Rattle.std.proofs.Common.{◌≡◌, drop}
use Rattle.std.specs.List.{list_any}
use Rattle.proxy_history.specs.Part.{is_same}
use Rattle.test_reference.specs.Scan.{part_of, parts_of}
use Rattle.test_reference.proofs.pipe.was_sent.Given as goal

abbrev pub invariant-loop-sent : goal.invariant-loop-sent
invariant-loop-sent l = list_any (is_same (part_of l.fn.part)) (parts_of l.fn.replay.sent.items) ≡ list_any (is_same (part_of l.fn.part)) (parts_of (drop l.sent-index l.fn.replay.sent.items))

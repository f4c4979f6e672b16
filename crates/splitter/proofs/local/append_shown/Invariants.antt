use Rattle.std.proofs.Common.{◌≡◌, ◌++◌, map, drop}
use Rattle.splitter.specs.Plan.{shown_byte}
use Rattle.splitter.proofs.local.append_shown.Given as goal

abbrev pub invariant-loop-byte : goal.invariant-loop-byte
invariant-loop-byte l = l.text.items ++ map shown_byte (drop l.byte-index l.byte-items) ≡ l.initial.text.items ++ map shown_byte l.byte-items

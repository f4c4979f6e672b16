use Rattle.std.proofs.Common.{◌≡◌, ◌++◌, drop, map}
use Rattle.resp_core.specs.Command.{payload_of}
use Rattle.splitter.specs.Part.{key_parts_of}
use Rattle.splitter.proofs.parts.single_parts.Given as goal

abbrev pub invariant-loop-at : goal.invariant-loop-at
invariant-loop-at l =
    l.parts.items ++ key_parts_of l.fn.head (drop l.at (map payload_of l.words)) ≡ key_parts_of l.fn.head (drop 1 (map payload_of l.words))

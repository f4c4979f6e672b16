use Rattle.std.proofs.Common.{◌≡◌, ◌++◌, drop, map}
use Rattle.resp_core.specs.Command.{payload_of}
use Rattle.splitter.specs.Part.{key_parts_of, key_texts}
use Rattle.splitter.proofs.parts.joined_parts.Given as goal

abbrev pub invariant-loop-at : goal.invariant-loop-at
invariant-loop-at l = record {
  parts : l.parts.items ++ key_parts_of l.fn.head (drop l.at (map payload_of l.words)) ≡ key_parts_of l.fn.head (drop 1 (map payload_of l.words));
  rest : l.rest ≡ key_texts l.fn.head (drop l.at (map payload_of l.words));
}

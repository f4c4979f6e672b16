use Rattle.std.proofs.Common.{◌≡◌, drop, map}
use Rattle.resp_core.specs.Value.{tree_of}
use Rattle.resp_core.specs.Command.{payload_of}
use Rattle.stub_server.specs.Map.{names_key}
use Rattle.stub_server.proofs.map.is_among.Given as goal

abbrev pub invariant-loop-word : goal.invariant-loop-word
invariant-loop-word l = names_key (map payload_of (map tree_of (drop l.word-index l.words))) l.key ≡ names_key (map payload_of (map tree_of l.words)) l.key

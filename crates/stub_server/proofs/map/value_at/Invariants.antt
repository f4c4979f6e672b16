use Rattle.std.proofs.Common.{◌≡◌, drop}
use Rattle.stub_server.specs.Map.{value_at}
use Rattle.stub_server.proofs.map.value_at.Given as goal

abbrev pub invariant-loop-entry : goal.invariant-loop-entry
invariant-loop-entry l = value_at l.key (drop l.entry-index l.entries) ≡ value_at l.key l.entries

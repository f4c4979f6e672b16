use Rattle.std.proofs.Common.{◌≡◌, drop, map, find}
use Rattle.command_table.specs.Table.{is_name}
use Rattle.command_table.proofs.names.find_name.Given as goal

abbrev pub invariant-loop-known : goal.invariant-loop-known
invariant-loop-known l = find (is_name l.name) (map (λ n. n.now) (drop l.known-index l.names)) ≡ find (is_name l.name) (map (λ n. n.now) l.names)

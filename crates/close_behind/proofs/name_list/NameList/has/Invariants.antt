use Rattle.std.proofs.Common.{◌≡◌, drop}
use Rattle.std.specs.List.{list_any}
use Rattle.command_table.specs.Table.{is_name}
use Rattle.close_behind.specs.CloseBehind.{is_among}
use Rattle.close_behind.proofs.name_list.NameList.has.Given as goal

abbrev pub invariant-loop-one : goal.invariant-loop-one
invariant-loop-one l = list_any (is_name l.name) (drop l.one-index l.one-items) ≡ is_among l.self l.name

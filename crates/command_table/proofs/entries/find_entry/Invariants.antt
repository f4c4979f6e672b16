use Rattle.std.proofs.Common.{◌≡◌, drop, map}
use Rattle.command_table.specs.Table.{row_in}
use Rattle.command_table.specs.Entry.{row_of}
use Rattle.command_table.proofs.entries.find_entry.Given as goal

abbrev pub invariant-loop-entry : goal.invariant-loop-entry
invariant-loop-entry l = row_in (map row_of (drop l.entry-index l.entries)) l.name ≡ row_in (map row_of l.entries) l.name

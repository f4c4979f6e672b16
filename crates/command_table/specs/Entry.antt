-- What an entry says, as a row of the table.
use Rattle.command_table.specs.declared.Entry.{Entry}
use Rattle.command_table.specs.Table.{Row, row}

-- what an `Entry` says, as a row
abbrev pub row_of : Entry → Row
row_of e = row e.kind e.name.now e.least e.key_at

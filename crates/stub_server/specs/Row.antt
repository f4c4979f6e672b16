-- A named command as a row of the table of names.
use Rattle.stub_server.specs.declared.command.NamedCommand.{NamedCommand}
use Rattle.stub_server.specs.Command.{Row, row}

-- the row that the code's entry is
abbrev pub row_of : NamedCommand → Row
row_of n = row n.name.now n.command

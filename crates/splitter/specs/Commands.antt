-- The commands that hosts are asked for a request.
use Rattle.std.specs.Prelude.{if◌then◌else◌, Option, Some, None, List, [], length}
use Rattle.resp_core.specs.Command.{is_command, words_of, word}
use Rattle.command_table.specs.Table.{Row, row_named}
use Rattle.splitter.specs.Request.{Request, read, broken}
use Rattle.splitter.specs.Split.{Words, split}
use Rattle.splitter.specs.Plan.{takes}

-- those of a command of the table with a right number of words
abbrev pub commands_by_row : Option Row → Words → List Words
commands_by_row None words = []
commands_by_row (Some r) words = if takes r.kind r.least (length words) then split r words else []

-- the words of the command of each part, in the order of the parts
abbrev pub commands_of : Request → List Words
commands_of broken = []
commands_of (read t) = if is_command t then commands_by_row (row_named (word (words_of t) 0)) (words_of t) else []

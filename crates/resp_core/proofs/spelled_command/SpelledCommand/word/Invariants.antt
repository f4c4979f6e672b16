use Rattle.std.specs.Prelude.{◌≡◌, drop, map}
use Rattle.resp_core.specs.Tree.{bulk, trees_of}
use Rattle.resp_core.specs.Text.{texts}
use Rattle.resp_core.proofs.spelled_command.SpelledCommand.word.Given as goal

abbrev pub invariant-loop : goal.invariant-loop
invariant-loop l = l.rest ≡ texts (trees_of (map bulk (drop l.counter l.fn.self)))

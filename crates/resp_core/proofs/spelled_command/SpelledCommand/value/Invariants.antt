use Rattle.resp_core.proofs.SpelledCommandLemmas.{AreSlices}
use Rattle.resp_core.proofs.spelled_command.SpelledCommand.value.Given as goal

abbrev pub invariant-loop : goal.invariant-loop
invariant-loop l = AreSlices l.fn.self l.counter l.words.items l.rest

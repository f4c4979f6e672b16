use Rattle.resp_core.proofs.SpelledCommandLemmas.{IsScanned}
use Rattle.resp_core.proofs.spelled_command.spelled_len.Given as goal

abbrev pub invariant-loop : goal.invariant-loop
invariant-loop l = IsScanned l.count l.counter l.bytes l.rest

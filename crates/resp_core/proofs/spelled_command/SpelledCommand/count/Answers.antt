use Rattle.std.proofs.Common.{ap, length, arith}
use Rattle.resp_core.proofs.SpelledCommandLemmas.{number_is}
use Rattle.resp_core.proofs.spelled_command.SpelledCommand.count.Goals as goal

pub overflow_sub-result : goal.overflow_sub-result
overflow_sub-result c = omega (arith, number_is _ c.as_slice.result.now _ c.self.invariant c.as_slice.ensures)

pub returns-clause-count : goal.returns-clause-count
returns-clause-count c = omega (arith, number_is _ c.as_slice.result.now _ c.self.invariant c.as_slice.ensures, ap length c.self.view_is)

pub returns-clause-some : goal.returns-clause-some
returns-clause-some c = omega (arith, number_is _ c.as_slice.result.now _ c.self.invariant c.as_slice.ensures, c.self.invariant.some)

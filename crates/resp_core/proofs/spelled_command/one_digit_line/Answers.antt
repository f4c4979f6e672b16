use Rattle.std.proofs.Common.{arith}
use Rattle.resp_core.proofs.SpelledCommandLemmas.{one_digit}
use Rattle.resp_core.proofs.spelled_command.one_digit_line.Goals as goal

pub returns-then-n-limit-clause-line : goal.returns-then-n-limit-clause-line
returns-then-n-limit-clause-line c =
    one_digit c.args.kind c.in_ok-n.n c.args.bytes.now c.in-13.len_at_least c.if-first-kind.true c.in_ok-n.ensures (omega arith) (omega arith)

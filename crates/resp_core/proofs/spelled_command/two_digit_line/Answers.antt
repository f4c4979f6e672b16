use Rattle.std.proofs.Common.{arith}
use Rattle.resp_core.proofs.SpelledCommandLemmas.{two_digits}
use Rattle.resp_core.proofs.spelled_command.two_digit_line.Goals as goal

pub returns-then-n-limit-clause-line : goal.returns-then-n-limit-clause-line
returns-then-n-limit-clause-line c =
    two_digits c.args.kind c.in_ok-digit_of.field-0 c.in_ok-n.field-0 c.args.bytes.now c.in-13.len_at_least c.if-first-kind.true c.in_ok-digit_of.ensures c.in_ok-n.ensures
    c.if-n-ge10.true (omega arith) (omega arith)

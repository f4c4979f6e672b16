use Rattle.std.proofs.Common.{arith}
use Rattle.resp_core.proofs.text.bulk_len.Goals as goal

pub returns : goal.returns
returns c = omega (arith, c.digits.ensures, c.line_len.ensures, c.saturating_add.ensures, c.saturating_add-2.ensures)

use Rattle.std.proofs.Common.{arith}
use Rattle.std.proofs.lemmas.Fmt.{length-decimal-le}
use Rattle.resp_core.proofs.text.signed_digits.Goals as goal

pub overflow_add-result : goal.overflow_add-result
overflow_add-result c =
    omega (arith, c.digits-count.ensures, length-decimal-le 20 c.unsigned_abs.result (omega arith) (omega (arith, c.unsigned_abs.ensures.bound)) (omega (arith, c.unsigned_abs.ensures.bound)))

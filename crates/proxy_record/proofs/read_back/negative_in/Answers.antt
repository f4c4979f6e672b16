use Rattle.std.proofs.Common.{◌≡◌, pos, neg_ℤ, Some, None, length, decimal, ap, ◌∙◌, arith}
use Rattle.proxy_record.proofs.DecimalLemmas.{behind_minus}
use Rattle.proxy_record.proofs.read_back.negative_in.Goals as goal

pub returns-in_default : goal.returns-in_default
returns-in_default c n few is = absurd (omega (arith, ap length is))

pub returns-in-Some : goal.returns-in-Some
returns-in-Some c n few is =
    let same : Some c.in-Some.n ≡ Some n = c.in-Some.ensures n (omega arith) (behind_minus c.args.shown.now (decimal n) is) in
    let number : c.in-Some.n ≡ n = cc in
    c.negated.ensures (omega arith) ∙ ap (λ z. Some (neg_ℤ (pos z))) number

pub returns-in-None : goal.returns-in-None
returns-in-None c n few is =
    let same : None ≡ Some n = c.in-None.ensures n (omega arith) (behind_minus c.args.shown.now (decimal n) is) in cc

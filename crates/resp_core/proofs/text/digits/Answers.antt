use Rattle.std.proofs.Common.{length, decimal, sym, ap, ◌∙◌, arith}
use Rattle.std.proofs.lemmas.Fmt.{decimal_digit}
use Rattle.resp_core.proofs.SpellingLengthLemmas.{decimal_two, length-decimal_power}
use Rattle.resp_core.proofs.text.digits.Goals as goal

pub returns-in-Some : goal.returns-in-Some
returns-in-Some c =
    let is = c.in-Some.ensures in
    omega (arith, c.from.ensures, length-decimal_power c.in-Some.exponent c.args.n is.power_le is.next_power_gt (omega (arith, c.ranges.n.fits)))

pub returns-in-None : goal.returns-in-None
returns-in-None c = ap length (sym (decimal_digit 0 (omega arith))) ∙ ap (λ n. length (decimal n)) (sym c.in-None.ensures.none)

pub returns-then-n-lt10 : goal.returns-then-n-lt10
returns-then-n-lt10 c = ap length (sym (decimal_digit c.args.n (omega (arith, c.if-n-lt10.true))))

pub returns-then-n-lt100 : goal.returns-then-n-lt100
returns-then-n-lt100 c = ap length (sym (decimal_two c.args.n (omega (arith, c.if-n-lt10.false)) (omega (arith, c.if-n-lt100.true))))

use Rattle.std.proofs.Common.{◌≡◌, ◌+◌, ◌-◌, ◌/◌, ◌%◌, ◌++◌, ◌∷◌, [], ◌≤◌, length, drop, slice_set, OnOk, ap, ◌∙◌, arith, subst}
use Rattle.std.specs.Fmt.{decimal}
use Rattle.std.proofs.lemmas.Fmt.{decimal_digit, length-decimal-le}
use Rattle.std.proofs.lemmas.List.{drop-set, length-drop, length-set, take_all}
use Rattle.resp_core.specs.Text.{line_end}
use Rattle.resp_core.proofs.SpellingLengthLemmas.{decimal_two, decimal_three}
use Rattle.resp_core.proofs.text.append_count.Goals as goal

pub write_digits-digits-requires : goal.write_digits-digits-requires
write_digits-digits-requires g c = (omega (arith, length-decimal-le 20 c.args.count (omega arith) (omega (arith, c.ranges.count.fits)) (omega (arith, c.ranges.count.fits))), omega arith)

pub overflow_sub-head : goal.overflow_sub-head
overflow_sub-head g c = omega (arith, c.write_digits-digits.ensures.start, length-decimal-le 20 c.args.count (omega arith) (omega (arith, c.ranges.count.fits)) (omega (arith, c.ranges.count.fits)))

pub overflow_sub-digits : goal.overflow_sub-digits
overflow_sub-digits g c = omega (arith, c.write_digits-digits.ensures.start, length-decimal-le 20 c.args.count (omega arith) (omega (arith, c.ranges.count.fits)) (omega (arith, c.ranges.count.fits)))

pub returns-clause-ok : goal.returns-clause-ok
returns-clause-ok g c =
    let w = c.write_digits-digits in
    let long = length-decimal-le 20 c.args.count (omega arith) (omega (arith, c.ranges.count.fits)) (omega (arith, c.ranges.count.fits)) in
    let e : w.result - 1 + 1 ≡ w.result = omega (arith, w.ensures.start, long) in
    let head : drop (w.result - 1) (slice_set w.new.buf (w.result - 1) c.args.kind) ≡ c.args.kind ∷ decimal c.args.count ++ line_end =
    drop-set w.new.buf (w.result - 1) c.args.kind (omega (arith, w.ensures.start, long, w.auto.buf))
    ∙ ap (λ n. c.args.kind ∷ drop n w.new.buf) e ∙ ap (λ xs. c.args.kind ∷ xs) w.ensures.written in
    let buf = slice_set w.new.buf (w.result - 1) c.args.kind in
    let short : length (drop (w.result - 1) buf) ≤ 23 - (w.result - 1) =
    omega (arith, length-drop (w.result - 1) buf, length-set w.new.buf (w.result - 1) c.args.kind, w.auto.buf) in
    subst (λ xs. OnOk c.append_head-2.result (g.S.Sink.written c.append_head-2.new.out ≡ g.S.Sink.written c.args.out.now ++ xs))
    (take_all (23 - (w.result - 1)) (drop (w.result - 1) buf) short ∙ head) c.append_head-2.ensures.ok

pub returns-then-count-lt10-clause-ok : goal.returns-then-count-lt10-clause-ok
returns-then-count-lt10-clause-ok g c =
    let is : decimal c.args.count ≡ (48 + c.args.count) ∷ [] = decimal_digit c.args.count (omega (arith, c.if-count-lt10.true)) in
    rw is c.append_head.ensures.ok

pub returns-then-count-lt100-clause-ok : goal.returns-then-count-lt100-clause-ok
returns-then-count-lt100-clause-ok g c =
    let is : decimal c.args.count ≡ (48 + c.args.count / 10) ∷ (48 + c.args.count % 10) ∷ [] = decimal_two c.args.count (omega (arith, c.if-count-lt10.false)) (omega (arith, c.if-count-lt100.true)) in
    rw is c.append_head-then-count-lt100.ensures.ok

pub returns-then-count-lt1000-clause-ok : goal.returns-then-count-lt1000-clause-ok
returns-then-count-lt1000-clause-ok g c =
    let is : decimal c.args.count ≡ (48 + c.args.count / 10 / 10) ∷ (48 + c.args.count / 10 % 10) ∷ (48 + c.args.count % 10) ∷ [] =
    decimal_three c.args.count (omega (arith, c.if-count-lt100.false)) (omega (arith, c.if-count-lt1000.true)) in
    rw is c.append_head-then-count-lt1000.ensures.ok

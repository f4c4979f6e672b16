use Rattle.std.proofs.Common.{refl, arith}
use Rattle.resp_core.specs.PartialValue.{seen_of}
use Rattle.resp_core.proofs.unfinished.PartialValueLemmas.{held_is, same_shown, starts_anew, gives_value, value_too_long, none_yet, none_too_long, byte_refused, place_inside}
use Rattle.resp_core.proofs.partial_value.PartialValue.next_value.Goals as goal

pub returns-in-Ok-Some-clause-halts : goal.returns-in-Ok-Some-clause-halts
returns-in-Ok-Some-clause-halts c = λ held r.
    let e = rw c.in-Ok-Some.field-0-is at c.in-Ok-Some.ensures.value in
    value_too_long c.args.most held c.go_on.new.self _ (e.1 held r) (omega (arith, c.go_on.ensures.good.came, c.if-self-gt-MAX_TEXT.true))

pub returns-in-Ok-Some-2-clause-value : goal.returns-in-Ok-Some-2-clause-value
returns-in-Ok-Some-2-clause-value c = λ held r.
    let e = rw c.in-Ok-Some.field-0-is at c.in-Ok-Some.ensures.value in
    let f = e.1 held r in
    record {
      first = gives_value c.args.most held c.go_on.new.self _ f (omega (arith, c.if-self-gt-MAX_TEXT.false));
      reads = starts_anew c.args.most held c.go_on.new.self _ _ f e.0 refl refl refl refl refl;
    }

pub returns-in-Ok-None-clause-halts : goal.returns-in-Ok-None-clause-halts
returns-in-Ok-None-clause-halts c = λ held r.
    let e = rw c.in-Ok-None.field-0-is at c.in-Ok-None.ensures.none in
    none_too_long c.args.most held (e.1 held r) (omega (arith, held_is c.args.most held c.go_on.new.self (e.0 held r), c.held.ensures, c.if-held.true))

pub returns-in-Ok-None-2-clause-none : goal.returns-in-Ok-None-2-clause-none
returns-in-Ok-None-2-clause-none c = λ held r.
    let e = rw c.in-Ok-None.field-0-is at c.in-Ok-None.ensures.none in (
      same_shown c.args.most held c.go_on.new.self c.give_back.new.self c.give_back.ensures.same (e.0 held r),
      none_yet c.args.most held (e.1 held r) (omega (arith, held_is c.args.most held c.go_on.new.self (e.0 held r), c.held.ensures, c.if-held.false)),
    )

pub returns-in-Err-Refused-clause-halts : goal.returns-in-Err-Refused-clause-halts
returns-in-Err-Refused-clause-halts c = λ held r.
    let e = (rw c.in-Err-Refused.field-0-is at c.in-Err-Refused.ensures.halts).1 held r in
    rw c.in-Err-Refused.place-is (byte_refused c.args.most held c.in-Err-Refused.refusal c.told_at.result c.in-Err-Refused.place e (place_inside c.args.most (seen_of held) _ _ e)
    (rw (c.in-Err-Refused.refusal-is, c.in-Err-Refused.place-is) at c.told_at.ensures))

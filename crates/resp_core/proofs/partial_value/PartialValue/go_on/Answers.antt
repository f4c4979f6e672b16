use Rattle.std.proofs.lemmas.Result.{err_from_is_err_and}
use Rattle.resp_core.proofs.unfinished.WordLemmas.{same_reads}
use Rattle.resp_core.proofs.partial_value.PartialValue.go_on.Goals as goal

pub returns-in-Ok-Last-clause-value : goal.returns-in-Ok-Last-clause-value
returns-in-Ok-Last-clause-value c =
    let i = c.loop-value.invariant in
    let word = rw c.in-Ok-Last.field-0-is at c.in-Ok-Last.ensures in
    (word.last.0, (λ held r. word.last.1 held (i.reads held r)))

pub loop-value-preserved-in-Ok-Member : goal.loop-value-preserved-in-Ok-Member
loop-value-preserved-in-Ok-Member c =
    record {
      good = c.put_next.ensures.good;
      reads = λ held r.
          let word = rw c.in-Ok-Member.field-0-is at c.in-Ok-Member.ensures in
          word.member.0 held (c.loop-value.invariant.reads held r);
    }

pub returns-in-Err-clause-halts : goal.returns-in-Err-clause-halts
returns-in-Err-clause-halts c =
    ((λ held r. c.in-Err.ensures.err held (c.loop-value.invariant.reads held r)), (λ held r. tt))

pub returns-in_err-turn-clause-halts : goal.returns-in_err-turn-clause-halts
returns-in_err-turn-clause-halts c =
    let (_, is_err, same_error) = err_from_is_err_and c.from_residual.result c.from_residual.ensures.1 in
    let i = c.loop-value.invariant in
    let word = rw c.in-Ok-Missing.field-0-is at c.in-Ok-Missing.ensures in
    rw (is_err, same_error) (
      (λ held r. c.turn.ensures.reads held (same_reads c.args.most held _ _ word.missing.0 (i.reads held r))),
      (λ held r. c.in_err-turn.ensures.halts held (same_reads c.args.most held _ _ word.missing.0 (i.reads held r))),
    )

pub returns-then-not-branch-clause-none : goal.returns-then-not-branch-clause-none
returns-then-not-branch-clause-none c =
    let i = c.loop-value.invariant in
    let word = rw c.in-Ok-Missing.field-0-is at c.in-Ok-Missing.ensures in (
      (λ held r. c.turn.ensures.reads held (same_reads c.args.most held _ _ word.missing.0 (i.reads held r))),
      (λ held r. c.in_ok-turn.ensures.none c.if-not-branch.true held (same_reads c.args.most held _ _ word.missing.0 (i.reads held r))),
    )

pub loop-value-preserved : goal.loop-value-preserved
loop-value-preserved c =
    record {
      good = c.turn.ensures.good;
      reads = λ held r.
          let word = rw c.in-Ok-Missing.field-0-is at c.in-Ok-Missing.ensures in
          c.turn.ensures.reads held (same_reads c.args.most held _ _ word.missing.0 (c.loop-value.invariant.reads held r));
    }

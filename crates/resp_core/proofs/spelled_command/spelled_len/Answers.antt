use Rattle.std.proofs.Common.{refl, arith}
use Rattle.resp_core.proofs.SpelledCommandLemmas.{scanned_next, scanned_all}
use Rattle.resp_core.proofs.spelled_command.spelled_len.Goals as goal

pub loop-preserved : goal.loop-preserved
loop-preserved c =
    let (s, is) = c.in_ok-rest.ensures in
    scanned_next c.in_ok-count.count c.loop.counter c.args.bytes.now c.loop.rest.now c.in_ok-rest.rest.now s c.loop.invariant is

pub returns-then-len-le-MAX_COPY_BLOCK-clause-spelled : goal.returns-then-len-le-MAX_COPY_BLOCK-clause-spelled
returns-then-len-le-MAX_COPY_BLOCK-clause-spelled c =
    scanned_all c.in_ok-count.count c.loop.counter _ c.args.bytes.now c.loop.rest.now c.loop.invariant (omega (arith, c.loop-test.false, c.loop.auto.counter-end)) (omega (arith, c.if-count-eq0.false)) c.in_ok-count.ensures.limit refl c.if-len-le-MAX_COPY_BLOCK.true

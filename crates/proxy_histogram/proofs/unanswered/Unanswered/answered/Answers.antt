use Rattle.std.proofs.Common.{◌≡◌, ◌+◌, ◌-◌, arith}
use Rattle.proxy_histogram.proofs.UnansweredLemmas.{answers_more, answers_end}
use Rattle.proxy_histogram.proofs.unanswered.Unanswered.answered.Goals as goal

pub returns-then-run-eq0 : goal.returns-then-run-eq0
returns-then-run-eq0 c = answers_end c.args.self.now c.loop-run.self c.take_first-run.new.self c.args.now c.args.count c.loop-run.left
    c.take_first-run.result.count c.take_first-run.result.since c.args.durations.now c.loop-run.durations c.loop-run.invariant.0
    c.take_first-run.ensures.taken c.if-run-eq0.true (c.take_first-run.ensures.none c.if-run-eq0.true) (omega (arith, c.loop-run.invariant.1))

pub loop-run-preserved : goal.loop-run-preserved
loop-run-preserved c =
    let few = c.take_first-run.ensures.few in
    let within = c.loop-run.invariant.1 in
    let sum : c.args.count - c.loop-run.left + c.take_first-run.result.count ≡ c.args.count - (c.loop-run.left - c.take_first-run.result.count) =
    omega (arith, few, within) in
    let some = c.if-run-eq0.false in (
      rw sum at (answers_more c.args.self.now c.loop-run.self c.take_first-run.new.self c.args.now (c.args.count - c.loop-run.left)
          c.take_first-run.result.count c.take_first-run.result.since c.args.durations.now c.loop-run.durations c.record_times.new.self
          c.loop-run.invariant.0 c.take_first-run.ensures.taken (rw c.saturating_sub.ensures at c.record_times.ensures)),
      omega (arith, few, within, some),
    )

use Rattle.std.proofs.Common.{take, arith}
use Rattle.proxy_history.proofs.CallerLemmas.{times-length}
use Rattle.test_reference.specs.Scan.{is_wanted, history_of}
use Rattle.test_reference.proofs.HistoryOfLemmas.{length-history_of}
use Rattle.test_reference.proofs.scan.times.Goals as goal

pub overflow_add-count : goal.overflow_add-count
overflow_add-count c =
    omega (
      arith,
      times-length (is_wanted c.args.wanted) (history_of (take c.loop-step.step-index c.args.steps.now)),
      c.loop-step.invariant,
      length-history_of c.args.steps.now c.loop-step.step-index c.loop-step.auto.step-index-end,
      c.loop-step-test.true,
      c.loop-step.auto.count-fits,
    )

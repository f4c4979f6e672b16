use Rattle.std.proofs.Common.{◌≡◌, take}
use Rattle.proxy_history.specs.History.{times}
use Rattle.test_reference.specs.Scan.{is_wanted, history_of}
use Rattle.test_reference.proofs.scan.times.Given as goal

abbrev pub invariant-loop-step : goal.invariant-loop-step
invariant-loop-step l = l.count ≡ times (is_wanted l.fn.wanted) (history_of (take l.step-index l.fn.steps))

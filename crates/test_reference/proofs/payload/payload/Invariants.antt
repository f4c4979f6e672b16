use Rattle.std.proofs.Common.{◌≡◌, take}
use Rattle.resp_core.specs.Stream.{told_offset}
use Rattle.proxy_history.specs.Payload.{payload}
use Rattle.test_reference.specs.Scan.{history_of}
use Rattle.test_reference.proofs.payload.payload.Given as goal

abbrev pub invariant-loop-step : goal.invariant-loop-step
invariant-loop-step l = l.total ≡ told_offset (payload (history_of (take l.step-index l.fn.steps)))

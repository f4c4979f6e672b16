use Rattle.std.proofs.Common.{◌≡◌, ◌≤◌, take, length}
use Rattle.proxy_history.specs.History.{requests}
use Rattle.test_reference.specs.Scan.{history_of}
use Rattle.test_reference.proofs.scan.request_at.Given as goal

abbrev pub invariant-loop-step : goal.invariant-loop-step
invariant-loop-step l = record {
  before : l.before ≡ length (requests l.fn.conn (history_of (take l.step-index l.fn.steps)));
  few : l.before ≤ l.fn.index;
}

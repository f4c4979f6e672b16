use Rattle.std.proofs.Common.{◌≡◌, drop}
use Rattle.proxy_history.specs.Value.{upstream_failure}
use Rattle.proxy_core.specs.Connections.{AreAwaited, answered_parts}
use Rattle.proxy_core.proofs.state.connections.Connections.fail_parts.Given as goal

abbrev pub invariant-loop-owner : goal.invariant-loop-owner
invariant-loop-owner l = record {
  awaited : AreAwaited (drop l.owner-index l.fn.owners) upstream_failure l.self.numbered;
  answered : answered_parts (drop l.owner-index l.fn.owners) upstream_failure l.self.numbered
      ≡ answered_parts l.fn.owners upstream_failure l.fn.self.numbered;
  closed : l.self.closed ≡ l.fn.self.closed;
}

use Rattle.std.proofs.Common.{◌≡◌, drop, filter_map}
use Rattle.proxy_history.specs.Value.{upstream_failure}
use Rattle.proxy_core.specs.Connections.{AreAwaited, answered_parts}
use Rattle.proxy_core.proofs.state.connections.Connections.fail_places.Given as goal

abbrev pub invariant-loop-place : goal.invariant-loop-place
invariant-loop-place l = record {
  awaited : AreAwaited (filter_map (λ o. o) (drop l.place-index l.fn.places)) upstream_failure l.self.numbered;
  answered : answered_parts (filter_map (λ o. o) (drop l.place-index l.fn.places)) upstream_failure l.self.numbered
      ≡ answered_parts (filter_map (λ o. o) l.fn.places) upstream_failure l.fn.self.numbered;
  closed : l.self.closed ≡ l.fn.self.closed;
}

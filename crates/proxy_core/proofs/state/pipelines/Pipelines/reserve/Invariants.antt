-- Up to here each host has its room, and nothing else has changed.
use Rattle.std.proofs.Common.{◌≡◌}
use Rattle.proxy_core.specs.Pipelines.{HasRooms}
use Rattle.proxy_core.proofs.state.pipelines.Pipelines.reserve.Given as goal

abbrev pub invariant-loop-host : goal.invariant-loop-host
invariant-loop-host l = record {
  room : HasRooms l.counts l.host l.self;
  same : l.self.states ≡ l.fn.self.states;
}

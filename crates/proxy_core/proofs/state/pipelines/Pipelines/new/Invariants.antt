use Rattle.std.proofs.Common.{◌≡◌, ◌≤◌, map, replicate, vec_len, vec_capacity}
use Rattle.proxy_core.specs.Pipelines.{state_of, no_pipeline}
use Rattle.proxy_core.proofs.state.pipelines.Pipelines.new.Given as goal

abbrev pub invariant-loop : goal.invariant-loop
invariant-loop l = record {
  fresh : map state_of l.by_host.items ≡ replicate l.counter no_pipeline;
  len : vec_len l.by_host ≡ l.counter;
  capacity : l.hosts ≤ vec_capacity l.by_host;
}

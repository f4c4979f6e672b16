use Rattle.std.proofs.Common.{◌≡◌, map}
use Rattle.std.specs.List.{range_with_len}
use Rattle.proxy_local.proofs.stubs.stub_engines.Given as goal

-- those of the hosts so far
abbrev pub invariant-loop-host : goal.invariant-loop-host
invariant-loop-host l = map (λ e. e.outbox.host) l.engines.items ≡ range_with_len 0 l.host

-- Up to here the parts of the connection are forgotten.
use Rattle.std.proofs.Common.{◌≡◌}
use Rattle.list_lemmas.specs.Lists.{mapped_to}
use Rattle.proxy_core.specs.Pipelines.{without_connection}
use Rattle.proxy_core.proofs.state.pipelines.Pipelines.forget.Given as goal

abbrev pub invariant-loop-host : goal.invariant-loop-host
invariant-loop-host l = l.self.states ≡ mapped_to (without_connection l.conn) l.host l.fn.self.states

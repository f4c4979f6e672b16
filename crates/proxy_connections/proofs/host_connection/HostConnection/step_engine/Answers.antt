use Rattle.std.proofs.Common.{◌∙◌, refl}
use Rattle.proxy_connections.proofs.SocketLemmas.{KeepsHost-same, KeepsHost-then}
use Rattle.proxy_connections.proofs.host_connection.HostConnection.step_engine.Goals as goal

pub loop-init : goal.loop-init
loop-init g c = (KeepsHost-same _ _, refl)

pub loop-preserved : goal.loop-preserved
loop-preserved g c = (
  KeepsHost-then _ _ _ _ _ _ c.loop.invariant.0 c.go_on_noting.ensures.keeps,
  c.go_on_noting.ensures.address ∙ c.loop.invariant.1,
)

pub returns-in_err-go_on_noting-clause-keeps : goal.returns-in_err-go_on_noting-clause-keeps
returns-in_err-go_on_noting-clause-keeps g c = KeepsHost-then _ _ _ _ _ _ c.loop.invariant.0 c.go_on_noting.ensures.keeps

pub returns-in-Waits-clause-keeps : goal.returns-in-Waits-clause-keeps
returns-in-Waits-clause-keeps g c = KeepsHost-then _ _ _ _ _ _ c.loop.invariant.0 c.go_on_noting.ensures.keeps

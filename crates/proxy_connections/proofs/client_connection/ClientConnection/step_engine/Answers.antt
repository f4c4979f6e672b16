use Rattle.std.proofs.Common.{rules}
use Rattle.proxy_engines.proofs.CallerLemmas.{KeepsSocket-same, KeepsSocket-then}
use Rattle.proxy_connections.proofs.client_connection.ClientConnection.step_engine.Goals as goal

pub loop-init : goal.loop-init
loop-init g c = (KeepsSocket-same _ _, c.requires)

pub loop-preserved : goal.loop-preserved
loop-preserved g c = (KeepsSocket-then _ _ _ _ _ _ c.loop.invariant.0 c.step.ensures.keeps, search rules)

pub returns-in_err-step-clause-keeps : goal.returns-in_err-step-clause-keeps
returns-in_err-step-clause-keeps g c = KeepsSocket-then _ _ _ _ _ _ c.loop.invariant.0 c.step.ensures.keeps

pub returns-in-Waits-clause-keeps : goal.returns-in-Waits-clause-keeps
returns-in-Waits-clause-keeps g c = KeepsSocket-then _ _ _ _ _ _ c.loop.invariant.0 c.step.ensures.keeps

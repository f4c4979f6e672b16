use Rattle.std.proofs.Common.{◌≡◌}
use Rattle.proxy_engines.proofs.CallerLemmas.{KeepsSocket-told}
use Rattle.proxy_connections.proofs.StageLemmas.{due_after, told_closed}
use Rattle.proxy_connections.proofs.client_connection.ClientConnection.step_once.Goals.{then-may_read, else-may_read}
use Rattle.proxy_connections.proofs.client_connection.ClientConnection.step_once.Goals as goal

pub returns-clause-keeps : goal.returns-clause-keeps
returns-clause-keeps g c =
    let same : c.if-may_read.turns ≡ c.args.turns.now = elim c.if-may_read.branch [
      | then-may_read w ↦ (let left = w.leave.ensures in let is = w.turns-is in cc)
      | else-may_read w ↦ w.turns-is
    ] in
    let steps = KeepsSocket-told _ _ _ _ _ c.step.ensures.moves.goes in
    rw same at steps

pub returns-clause-closed : goal.returns-clause-closed
returns-clause-closed g c = told_closed _ _ _ _ _ _ c.step.ensures.tells c.step.ensures.cut

pub returns-clause-due : goal.returns-clause-due
returns-clause-due g c = due_after g.T.Turns.cause _ _ _ c.step.ensures.moves.turns c.step.ensures.moves.due

use Rattle.proxy_engines.proofs.CallerLemmas.{KeepsSocket-then, KeepsSocket-told}
use Rattle.proxy_connections.proofs.StageLemmas.{accepted_closed, due_after}
use Rattle.proxy_connections.proofs.client_connection.ClientConnection.accept_or_step.Goals as goal

pub returns-then-eq : goal.returns-then-eq
returns-then-eq g c = rw c.hold.ensures at c.step_once.ensures

pub returns-in-Ok-Idle-clause-keeps : goal.returns-in-Ok-Idle-clause-keeps
returns-in-Ok-Idle-clause-keeps g c =
    let accepts = KeepsSocket-told _ _ _ _ _ c.accept.ensures.moves.goes in
    KeepsSocket-then _ _ _ _ _ _ (rw c.hold.ensures at accepts) c.step_once-in-Ok-Idle.ensures.keeps

pub returns-in_default-clause-keeps : goal.returns-in_default-clause-keeps
returns-in_default-clause-keeps g c =
    let accepts = KeepsSocket-told _ _ _ _ _ c.accept.ensures.moves.goes in
    rw c.hold.ensures at accepts

pub returns-in_default-2-clause-keeps : goal.returns-in_default-2-clause-keeps
returns-in_default-2-clause-keeps g c =
    let accepts = KeepsSocket-told _ _ _ _ _ c.accept.ensures.moves.goes in
    rw c.hold.ensures at accepts

pub returns-in_default-2-clause-closed : goal.returns-in_default-2-clause-closed
returns-in_default-2-clause-closed g c = accepted_closed _ _ _ _ _ _ c.accept.ensures.accepts

pub returns-in_default-2-clause-due : goal.returns-in_default-2-clause-due
returns-in_default-2-clause-due g c = due_after g.T.Turns.cause _ _ _ c.accept.ensures.moves.turns c.accept.ensures.moves.due

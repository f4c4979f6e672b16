use Rattle.proxy_connections.proofs.SocketLemmas.{KeepsHost-then}
use Rattle.proxy_connections.proofs.host_connection.HostConnection.step.Goals as goal

pub returns-in_err-handle_error-in-Err-clause-keeps :
    goal.returns-in_err-handle_error-in-Err-clause-keeps
returns-in_err-handle_error-in-Err-clause-keeps g c =
    KeepsHost-then _ _ _ _ _ _ (KeepsHost-then _ _ _ _ _ _ c.give_up_if_due.ensures.keeps c.send_and_step-stepped.ensures.keeps)
    (rw c.note_step.ensures.engine at c.handle_error.ensures.keeps)

pub returns-in-Ok-clause-keeps : goal.returns-in-Ok-clause-keeps
returns-in-Ok-clause-keeps g c =
    rw c.note_step.ensures.engine (KeepsHost-then _ _ _ _ _ _ c.give_up_if_due.ensures.keeps c.send_and_step-stepped.ensures.keeps)

pub returns-in_ok-handle_error-in-Err-clause-keeps :
    goal.returns-in_ok-handle_error-in-Err-clause-keeps
returns-in_ok-handle_error-in-Err-clause-keeps g c =
    KeepsHost-then _ _ _ _ _ _ (KeepsHost-then _ _ _ _ _ _ c.give_up_if_due.ensures.keeps c.send_and_step-stepped.ensures.keeps)
    (rw c.note_step.ensures.engine at c.handle_error.ensures.keeps)

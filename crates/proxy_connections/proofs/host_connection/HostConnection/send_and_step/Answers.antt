use Rattle.proxy_connections.proofs.SocketLemmas.{KeepsHost-steps, KeepsHost-then}
use Rattle.proxy_connections.proofs.host_connection.HostConnection.send_and_step.Goals as goal

pub returns-then-not-may_read-clause-keeps : goal.returns-then-not-may_read-clause-keeps
returns-then-not-may_read-clause-keeps g c =
    let steps = KeepsHost-steps _ _ _ c.step.ensures.makes.steps in
    KeepsHost-then _ _ _ _ _ _ (rw c.hold.ensures at c.send_all.ensures.keeps) steps

pub returns-clause-keeps : goal.returns-clause-keeps
returns-clause-keeps g c =
    let steps = KeepsHost-steps _ _ _ c.receive.ensures.makes.steps in
    KeepsHost-then _ _ _ _ _ _ (rw c.hold.ensures at c.send_all.ensures.keeps) (rw (c.hold-2.ensures, c.leave.ensures) at steps)

use Rattle.proxy_connections.proofs.SocketLemmas.{KeepsHost-then}
use Rattle.proxy_connections.proofs.host_connection.HostConnection.go_on.Goals as goal

pub returns-in_err-give_up-in-NeedsLink-clause-keeps : goal.returns-in_err-give_up-in-NeedsLink-clause-keeps
returns-in_err-give_up-in-NeedsLink-clause-keeps g c = KeepsHost-then _ _ _ _ _ _ c.step.ensures.keeps c.give_up.ensures.keeps

pub returns-in_ok-give_up-in-NeedsLink-clause-keeps : goal.returns-in_ok-give_up-in-NeedsLink-clause-keeps
returns-in_ok-give_up-in-NeedsLink-clause-keeps g c = KeepsHost-then _ _ _ _ _ _ c.step.ensures.keeps c.give_up.ensures.keeps

pub returns-in-NeedsLink-2-clause-keeps : goal.returns-in-NeedsLink-2-clause-keeps
returns-in-NeedsLink-2-clause-keeps g c = KeepsHost-then _ _ _ _ _ _ c.step.ensures.keeps (rw c.leave.ensures at c.make_link.ensures.keeps)

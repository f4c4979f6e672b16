use Rattle.proxy_connections.proofs.SocketLemmas.{KeepsSocket-step}
use Rattle.proxy_connections.proofs.StageLemmas.{left_comes}
use Rattle.proxy_connections.proofs.client_connection.ClientConnection.step.Goals as goal

pub returns-clause-keeps : goal.returns-clause-keeps
returns-clause-keeps g c =
    KeepsSocket-step c.args.self.now.engine c.drain_unless_room.new.self.engine c.accept_or_step-stepped.new.self.engine c.handle_stepped.new.self.engine _ _
    c.drain_unless_room.ensures.drains (rw c.drain_unless_room.ensures.turns at c.accept_or_step-stepped.ensures.keeps) c.handle_stepped.ensures.drains

pub returns-clause-left : goal.returns-clause-left
returns-clause-left g c =
    left_comes _ _ c.accept_or_step-stepped.new.self.engine c.handle_stepped.new.self.engine c.handle_stepped.new.self.stage
    c.accept_or_step-stepped.ensures.closed c.accept_or_step-stepped.ensures.due c.handle_stepped.ensures.drains
    c.handle_stepped.new.self.over c.handle_stepped.ensures.left

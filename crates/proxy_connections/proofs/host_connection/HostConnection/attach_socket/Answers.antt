use Rattle.std.proofs.Common.{◌∙◌, ap}
use Rattle.proxy_engines.specs.Logs.{Logs}
use Rattle.proxy_connections.proofs.SocketLemmas.{KeepsHost-attached}
use Rattle.proxy_connections.proofs.host_connection.HostConnection.attach_socket.Goals as goal

pub returns-in-Ok-attach-clause-keeps : goal.returns-in-Ok-attach-clause-keeps
returns-in-Ok-attach-clause-keeps c =
    let (k, some, _, _, told, taken) = c.in-Ok-attach.ensures.link in
    KeepsHost-attached c.args.self.now.engine c.attach.new.self k c.requires.link c.attach.ensures.outbox some
    (told ∙ ap (λ (l : Logs). l.told) c.in-Ok.ensures.logs)
    (taken ∙ ap (λ (l : Logs). l.taken) c.in-Ok.ensures.logs)
    c.in-Ok-attach.ensures.carries

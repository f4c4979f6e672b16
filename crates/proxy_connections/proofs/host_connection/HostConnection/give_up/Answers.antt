use Rattle.std.proofs.Common.{refl}
use Rattle.proxy_connections.proofs.SocketLemmas.{KeepsHost-given_up, KeepsHost-records}
use Rattle.proxy_connections.proofs.host_connection.HostConnection.give_up.Goals as goal

pub returns-in-Ok-clause-keeps : goal.returns-in-Ok-clause-keeps
returns-in-Ok-clause-keeps g c =
    KeepsHost-given_up c.args.self.now.engine c.give_up-given_up.new.self _ _ c.args.self.now.engine.fault refl
    (KeepsHost-records _ _ c.in-Ok.ensures.records.records)

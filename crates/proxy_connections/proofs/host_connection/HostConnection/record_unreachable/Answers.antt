use Rattle.proxy_connections.proofs.SocketLemmas.{KeepsHost-records}
use Rattle.proxy_connections.proofs.host_connection.HostConnection.record_unreachable.Goals as goal

pub returns-in-Ok-clause-keeps : goal.returns-in-Ok-clause-keeps
returns-in-Ok-clause-keeps g c = KeepsHost-records _ _ c.in-Ok.ensures.records.records

-- What a crate above cites: a socket that goes over may go to another thread.
use denote.Param.Send.{IsSend, sendable}
use Rattle.std.proofs.Crossing.{crosses}
use Rattle.proxy_devices.proofs.CallerLemmas.{log_send}
use Rattle.proxy_engines.proofs.CallerLemmas.{rest_send}
use Rattle.proxy_connections.specs.contracts.client_connection.CarriedSocket as CarriedSocket

pub carried_send : IsSend CarriedSocket.the_row
carried_send = search (log_send, rest_send, crosses, sendable) depth 40 fits 20000

-- What a crate above cites: what all threads share may go to any of them.
use denote.Ref.{NamedLft}
use denote.Param.Send.{IsSend, IsSync, sendable}
use Rattle.std.proofs.Crossing.{crosses}
use Rattle.close_behind.specs.contracts.close_behind.CloseBehind as CloseBehind
use Rattle.proxy_config.specs.contracts.config.Config as Config
use Rattle.proxy_connections.specs.contracts.client_connection.CarriedSocket as CarriedSocket
use Rattle.proxy_server.specs.contracts.server.Server as Server
use Rattle.proxy_rounds.specs.contracts.server.LineContext as LineContext
use Rattle.proxy_rounds.proofs.ThreadSharing as shared

pub context_send : (κ : NamedLft) → IsSend (LineContext.the_row κ)
context_send κ = search (shared.line_sync, shared.config_sync, shared.behind_sync, crosses, sendable) depth 40 fits 20000

pub server_sync : IsSync (Server.the_row CarriedSocket.the_row)
server_sync = shared.server_sync

pub config_sync : IsSync Config.the_row
config_sync = shared.config_sync

pub behind_sync : IsSync CloseBehind.the_row
behind_sync = shared.behind_sync

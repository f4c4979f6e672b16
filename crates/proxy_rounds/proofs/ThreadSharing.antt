-- What the threads of a generation share may be shared, and what each has may go to it.
use denote.Ref.{NamedLft}
use denote.Param.Send.{IsSend, IsSync, sendable}
use Rattle.std.proofs.Crossing.{crosses}
use Rattle.journal_room.proofs.CallerLemmas.{room_sync}
use Rattle.close_behind.proofs.SendLemmas as behind
use Rattle.close_behind.specs.contracts.close_behind.CloseBehind as CloseBehind
use Rattle.proxy_config.specs.contracts.config.Config as Config
use Rattle.proxy_connections.proofs.CallerLemmas.{carried_send}
use Rattle.proxy_server.proofs.CallerLemmas as server
use Rattle.proxy_server.specs.contracts.line.Line as Line
use Rattle.proxy_server.specs.contracts.server.Server as Server
use Rattle.proxy_connections.specs.contracts.client_connection.CarriedSocket as CarriedSocket
use Rattle.proxy_rounds.specs.contracts.generation_state.WorkerStatus as WorkerStatus
use Rattle.proxy_rounds.specs.contracts.generation_state.GenerationState as GenerationState

pub server_sync : IsSync (Server.the_row CarriedSocket.the_row)
server_sync = server.server_sync CarriedSocket.the_row carried_send

pub line_sync : IsSync (Line.the_row CarriedSocket.the_row)
line_sync = server.line_sync CarriedSocket.the_row carried_send

worker_sync : IsSync WorkerStatus.the_row
worker_sync = search (crosses, sendable) depth 40 fits 20000

pub generation_sync : (κ : NamedLft) → IsSync (GenerationState.the_row κ)
generation_sync κ = search (line_sync, worker_sync, room_sync, crosses, sendable) depth 40 fits 20000

pub config_sync : IsSync Config.the_row
config_sync = search (crosses, sendable) depth 40 fits 20000

pub behind_sync : IsSync CloseBehind.the_row
behind_sync = behind.close_behind_sync

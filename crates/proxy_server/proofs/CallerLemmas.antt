-- What a crate above cites: a server may be shared by threads, where its sockets may go to one.
use denote.RattleType.{RattleType}
use denote.Param.Send.{IsSend, IsSync, sendable}
use Rattle.std.proofs.Crossing.{crosses}
use Rattle.proxy_core.specs.contracts.handover.Handover as Handover
use Rattle.proxy_generations.specs.contracts.lifecycle.Due as Due
use Rattle.proxy_generations.specs.contracts.lifecycle.Generations as Generations
use Rattle.proxy_server.specs.contracts.line.AcceptQueue as AcceptQueue
use Rattle.proxy_server.specs.contracts.line.Line as Line
use Rattle.proxy_server.specs.contracts.process.Process as Process
use Rattle.proxy_server.specs.contracts.server.Server as Server
use Rattle.proxy_server.specs.contracts.line.Inherited as Inherited
use Rattle.proxy_server.specs.contracts.living.Living as Living
use Rattle.proxy_server.specs.contracts.stats.Stats as Stats
use Rattle.proxy_server.specs.contracts.stop.Stop as Stop
use Rattle.proxy_serve_core.specs.contracts.ejection_log.EjectionLog as EjectionLog
use Rattle.open_sockets.specs.contracts.open_sockets.AdmittedStream as AdmittedStream
use Rattle.open_sockets.specs.contracts.open_sockets.OpenSockets as OpenSockets

handover_send : IsSend Handover.the_row
handover_send = search (crosses, sendable) depth 40 fits 20000

inherited_send : IsSend Inherited.the_row
inherited_send = search (handover_send, crosses, sendable) depth 30 fits 20000

pub due_send : IsSend (Due.the_row Inherited.the_row)
due_send = search (inherited_send, crosses, sendable) depth 30 fits 20000

generations_send : IsSend (Generations.the_row Inherited.the_row)
generations_send = search (inherited_send, crosses, sendable) depth 40 fits 20000

stop_send : IsSend Stop.the_row
stop_send = search (crosses, sendable) depth 40 fits 20000

living_send : IsSend Living.the_row
living_send = search (crosses, sendable) depth 40 fits 20000

stats_send : IsSend Stats.the_row
stats_send = search (living_send, crosses, sendable) depth 40 fits 20000

sockets_sync : IsSync OpenSockets.the_row
sockets_sync = search (crosses, sendable) depth 40 fits 20000

admitted_send : IsSend AdmittedStream.the_row
admitted_send = search (crosses, sendable) depth 40 fits 20000

ejections_send : IsSend EjectionLog.the_row
ejections_send = search (crosses, sendable) depth 30 fits 20000

queue_sync : (C : RattleType) → IsSend C → IsSync (AcceptQueue.the_row C)
queue_sync C s = search (admitted_send, crosses, sendable) depth 40 fits 20000

process_sync : IsSync Process.the_row
process_sync = search (sockets_sync, stop_send, crosses, sendable) depth 40 fits 20000

process_send : IsSend Process.the_row
process_send = search (sockets_sync, stop_send, crosses, sendable) depth 40 fits 20000

pub line_sync : (C : RattleType) → IsSend C → IsSync (Line.the_row C)
line_sync C s = search (generations_send, stats_send, ejections_send, process_sync, process_send, queue_sync, crosses, sendable) depth 40 fits 20000

pub server_sync : (C : RattleType) → IsSend C → IsSync (Server.the_row C)
server_sync C s = search (line_sync, process_sync, process_send, crosses, sendable) depth 40 fits 20000

use denote.Param.Send.{sendable}
use Rattle.std.proofs.Crossing.{crosses}
use Rattle.ticket_gate.below.atomic_table.proofs.shared.Seat.TheSendSync as seat
use Rattle.proxy_core.proofs.CallerLemmas.{gate_sync}
use Rattle.proxy_stats.proofs.CallerLemmas.{tallied_send}
use Rattle.proxy_rounds.proofs.ThreadSharing.{behind_sync, config_sync, generation_sync}
use Rattle.proxy_rounds.proofs.generation.run_threads.Goals as goal

pub run_all-requires-send-K : goal.run_all-requires-send-K
run_all-requires-send-K g c κs within =
    search (tallied_send, seat.the_send, gate_sync, generation_sync, config_sync, behind_sync, crosses, sendable) depth 60 fits 20000

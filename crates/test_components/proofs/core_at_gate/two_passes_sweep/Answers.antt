use denote.Param.Send.{sendable}
use Rattle.std.proofs.Crossing.{crosses}
use Rattle.ticket_gate.below.atomic_table.proofs.shared.Seat.TheSendSync as seat
use Rattle.proxy_core.proofs.CallerLemmas.{core_send, recording_send, gate_sync}
use Rattle.test_components.proofs.core_at_gate.two_passes_sweep.Goals as goal

pub join-one-requires-send-F : goal.join-one-requires-send-F
join-one-requires-send-F g c κs within = search (core_send, recording_send, seat.the_send, gate_sync, crosses, sendable) depth 20

pub join-one-requires-send-A : goal.join-one-requires-send-A
join-one-requires-send-A g c κs within = search (core_send, recording_send, seat.the_send, crosses, sendable) depth 20

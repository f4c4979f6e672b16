-- The core may go to another thread, since each type that it holds may; and threads may share a gate round it.
use denote.RattleType.{RattleType}
use denote.Param.Send.{IsSend, IsSync, sendable}
use Rattle.std.proofs.Crossing.{crosses}
use Rattle.std.specs.contracts.option.Option as Option
use Rattle.resp_core.proofs.SendLemmas.{bytes_send, value_field_send, value_send, spelled_send, texts_send}
use Rattle.ketama.specs.contracts.ring.Ring as Ring
use Rattle.ejector.specs.contracts.ejector.Ejector as Ejector
use Rattle.journal_core.proofs.CallerLemmas.{kept_send}
use Rattle.journal_core.specs.contracts.journal.Journal as Journal
use Rattle.journal_core.specs.contracts.kept.Kept as Kept
use Rattle.journal_core.specs.contracts.step.Step as Step
use Rattle.proxy_history.specs.contracts.answer.Answer as Answer
use Rattle.proxy_history.specs.contracts.event.Event as Event
use Rattle.reply_queue.specs.contracts.joined.Joined as Joined
use Rattle.reply_queue.specs.contracts.command.Parts as Parts
use Rattle.reply_queue.specs.contracts.command.Command as Command
use Rattle.reply_queue.specs.contracts.queue.Queue as Queue
use Rattle.upstream_pipe.specs.contracts.pipe.Pipe as Pipe
use Rattle.ticket_gate.below.atomic_table.proofs.send_lease.SendLease.TheSendSync as lease
use Rattle.ticket_gate.below.atomic_table.proofs.shared.Shared.TheSendSync as shared
use Rattle.ticket_gate.specs.declared.recorded.Recorded.{Ghosts}
use Rattle.ticket_gate.specs.contracts.gate.Gate as Gate
use Rattle.proxy_core.specs.contracts.state.connection.Connection as Connection
use Rattle.proxy_core.specs.contracts.machine.Machine as Machine
use Rattle.proxy_core.specs.contracts.machine.CoreOf as CoreOf
use Rattle.proxy_core.specs.contracts.keeping.Counting as Counting
use Rattle.proxy_core.specs.contracts.keeping.Recording as Recording
use Rattle.proxy_core.specs.declared.keeping.Keeping as Keeping

ring_send : IsSend Ring.the_row
ring_send = search (crosses, sendable) depth 20

ejector_send : IsSend Ejector.the_row
ejector_send = search (crosses, sendable) depth 20

answer_send : IsSend Answer.the_row
answer_send = search (bytes_send, crosses, sendable) depth 20

event_send : IsSend Event.the_row
event_send = search (value_field_send, spelled_send, crosses, sendable) depth 20

pipe_send : IsSend Pipe.the_row
pipe_send = search (bytes_send, crosses, sendable) depth 20

joined_send : IsSend Joined.the_row
joined_send = search (value_send, crosses, sendable) depth 20

parts_send : IsSend (Parts.the_field).row
parts_send = search (value_field_send, joined_send, crosses, sendable) depth 20

command_send : IsSend Command.the_row
command_send = search (parts_send, crosses, sendable) depth 20

queue_send : IsSend Queue.the_row
queue_send = search (command_send, crosses, sendable) depth 20

connection_send : IsSend Connection.the_row
connection_send = search (queue_send, crosses, sendable) depth 20

step_send : IsSend (Step.the_row Event.the_row Answer.the_row)
step_send = search (event_send, answer_send, crosses, sendable) depth 20

steps_send : IsSend (Kept.the_row (Step.the_row Event.the_row Answer.the_row))
steps_send = kept_send (Step.the_row Event.the_row Answer.the_row) step_send

journal_send : IsSend (Journal.the_row Event.the_row Answer.the_row)
journal_send = search (steps_send, crosses, sendable) depth 20

machine_send : IsSend (Machine.the_field).row
machine_send = search (ring_send, ejector_send, journal_send, connection_send, pipe_send, texts_send, crosses, sendable) depth 20

pub counting_send : IsSend Counting.the_row
counting_send = search (crosses, sendable) depth 20

pub recording_send : IsSend Recording.the_row
recording_send = search (crosses, sendable) depth 20

pub core_send : (K : RattleType) (g : Keeping.Ghosts K.Denot) → IsSend K → IsSend (CoreOf.the_row K g)
core_send K g s = search (machine_send, crosses, sendable) depth 20

module _ (S E A R C T : RattleType) (g : Ghosts S.Denot E.Denot A.Denot R.Denot C.Denot T.Denot) where
  slot_send : IsSend S → IsSend (Option.the_row S)
  slot_send s = search (crosses, sendable) depth 20

  -- a gate may be shared where its state may go to another thread
  pub gate_sync : IsSend S → IsSync (Gate.the_row S E A R C T g)
  gate_sync s = let slot : IsSend (Option.the_row S) = slot_send s in search (shared.the_sync, lease.the_sync, crosses, sendable) depth 20

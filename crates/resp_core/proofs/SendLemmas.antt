-- Values, commands, texts and readers may go to another thread. `CallerLemmas` can't have these: definitions of crates above cite it,
-- and a definition may cite nothing that is made from code.
use denote.Param.Send.{IsSend, sendable}
use denote.Hole.{as_row}
use denote.Param.SendFields.{as_row_send}
use Rattle.std.proofs.Crossing.{crosses, Vec-send}
use Rattle.std.specs.contracts.alloc.Global as Global
use Rattle.std.specs.contracts.impls.GlobalAllocator.TheImpl.{ghosts}
use Rattle.bytes.specs.contracts.shared.Bytes as Bytes
use Rattle.bytes.proofs.shared.Bytes.TheSendSync as bytes
use Rattle.bytes.proofs.unique.BytesMut.TheSendSync as mutable
use Rattle.resp_core.specs.contracts.payload.Held as Held
use Rattle.resp_core.specs.contracts.payload.Payload as Payload
use Rattle.resp_core.specs.contracts.value.Value as Value
use Rattle.resp_core.specs.contracts.value.Values as Values
use Rattle.resp_core.specs.contracts.begun.Begun as Begun
use Rattle.resp_core.specs.contracts.text_block.TextBlock as TextBlock
use Rattle.resp_core.specs.contracts.texts.Texts as Texts
use Rattle.resp_core.specs.contracts.pending.Pending as Pending
use Rattle.resp_core.specs.contracts.partial_value.PartialValue as PartialValue
use Rattle.resp_core.specs.contracts.reader.Reader as Reader
use Rattle.resp_core.specs.contracts.spelled_command.SpelledCommand as SpelledCommand
use Rattle.resp_core.proofs.value.Values.TheLaws.TheKnot as knot

pub bytes_send : IsSend (Bytes.the_row Global.the_row ghosts)
bytes_send = search (bytes.the_send, crosses, sendable) depth 20

bytes_row_send : IsSend (as_row (Bytes.the_field Global.the_row ghosts))
bytes_row_send = as_row_send (Bytes.the_field Global.the_row ghosts) bytes_send

held_send : IsSend (Held.the_field).row
held_send = search (bytes_send, crosses, sendable) depth 20

payload_send : IsSend Payload.the_row
payload_send = search (held_send, crosses, sendable) depth 20

payload_row_send : IsSend (as_row Payload.the_field)
payload_row_send = as_row_send Payload.the_field payload_send

values_send : IsSend Values.the_row
values_send = knot.send-Values Vec-send bytes_row_send (search sendable) payload_row_send

pub value_field_send : IsSend (Value.the_field).row
value_field_send = knot.send-Value bytes_send (search sendable) payload_send values_send

pub value_send : IsSend Value.the_row
value_send = as_row_send Value.the_field value_field_send

pub spelled_send : IsSend SpelledCommand.the_row
spelled_send = search (bytes_send, crosses, sendable) depth 20

begun_send : IsSend Begun.the_row
begun_send = search (values_send, crosses, sendable) depth 20

text_block_send : IsSend TextBlock.the_row
text_block_send = search (mutable.the_send, crosses, sendable) depth 20

pub texts_send : IsSend Texts.the_row
texts_send = search (text_block_send, crosses, sendable) depth 20

pending_send : IsSend Pending.the_row
pending_send = search (bytes_send, text_block_send, mutable.the_send, crosses, sendable) depth 40 fits 20000

partial_value_send : IsSend (PartialValue.the_field).row
partial_value_send = search (value_send, begun_send, pending_send, crosses, sendable) depth 60 fits 20000

pub reader_send : IsSend Reader.the_row
reader_send = search (partial_value_send, crosses, sendable) depth 40 fits 20000

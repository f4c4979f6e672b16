-- What engines hold may go to another thread.
use denote.Param.Send.{IsSend, sendable}
use Rattle.std.proofs.Crossing.{crosses}
use Rattle.resp_core.proofs.SendLemmas.{value_field_send, spelled_send, reader_send}
use Rattle.close_behind.proofs.SendLemmas.{close_behind_send}
use Rattle.splitter.specs.contracts.request.Request as Request
use Rattle.proxy_engines.specs.contracts.inbox.Rest as Rest

pub request_send : IsSend Request.the_row
request_send = search (value_field_send, spelled_send, crosses, sendable) depth 20

pub rest_send : IsSend Rest.the_row
rest_send = search (reader_send, request_send, close_behind_send, crosses, sendable) depth 40 fits 20000

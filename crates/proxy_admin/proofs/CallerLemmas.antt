-- The operator's end may go to its thread.
use denote.Param.Send.{IsSend, sendable}
use Rattle.std.proofs.Crossing.{crosses}
use Rattle.proxy_admin.specs.contracts.admin.AdminListener as AdminListener

pub admin_send : IsSend AdminListener.the_row
admin_send = search (crosses, sendable) depth 60 fits 20000

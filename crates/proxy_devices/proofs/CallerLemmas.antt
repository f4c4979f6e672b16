-- What a crate above cites: a log may go to another thread.
use denote.Param.Send.{IsSend, owning_send}
use Rattle.proxy_devices.specs.contracts.byte_log.ByteLog.{the_row, the_type}

-- (a log owns nothing)
pub log_send : IsSend the_row
log_send = owning_send the_type tt (λ d. tt) (λ k x w. tt)

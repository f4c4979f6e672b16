use Rattle.std.proofs.Common.{sym, ap}
use Rattle.proxy_exit_status.specs.Ending.{status_of}
use Rattle.proxy_exit_status.proofs.ending.Ending.status.Goals as goal

pub returns-in-Socket : goal.returns-in-Socket
returns-in-Socket c = ap status_of (sym c.in-Socket.is)

use Rattle.std.proofs.Common.{sym, ap}
use Rattle.resp_core.specs.Offset.{number_of}
use Rattle.resp_core.proofs.error.RespError.number.Goals as goal

pub returns-in-BadType : goal.returns-in-BadType
returns-in-BadType c = ap number_of (sym c.in-BadType.is)

use Rattle.std.proofs.Common.{sym, ap}
use Rattle.ketama.specs.RingError.{number_of}
use Rattle.ketama.proofs.error.RingError.number.Goals as goal

pub returns-in-BadPoint : goal.returns-in-BadPoint
returns-in-BadPoint c = ap number_of (sym c.in-BadPoint.is)

use Rattle.std.proofs.Common.{sym, ap}
use Rattle.ejector.specs.EjectError.{number_of}
use Rattle.ejector.proofs.error.EjectError.number.Goals as goal

pub returns-in-NoMemory : goal.returns-in-NoMemory
returns-in-NoMemory c = ap number_of (sym c.in-NoMemory.is)

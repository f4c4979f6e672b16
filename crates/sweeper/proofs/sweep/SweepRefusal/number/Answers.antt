use Rattle.std.proofs.Common.{sym, ap}
use Rattle.sweeper.specs.Sweep.{number_of}
use Rattle.sweeper.proofs.sweep.SweepRefusal.number.Goals as goal

pub returns-in-JournalFull : goal.returns-in-JournalFull
returns-in-JournalFull c = ap number_of (sym c.in-JournalFull.is)

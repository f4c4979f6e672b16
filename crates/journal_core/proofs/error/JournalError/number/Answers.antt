use Rattle.std.proofs.Common.{sym, ap}
use Rattle.journal_core.specs.Error.{number_of}
use Rattle.journal_core.proofs.error.JournalError.number.Goals as goal

pub returns-in-JournalFull : goal.returns-in-JournalFull
returns-in-JournalFull c = ap number_of (sym c.in-JournalFull.is)

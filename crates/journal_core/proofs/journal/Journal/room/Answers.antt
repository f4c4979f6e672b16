use Rattle.std.proofs.Common.{rules}
use Rattle.journal_core.proofs.journal.Journal.room.Goals as goal

pub returns-then-len-ge-MAX_STEPS-clause-full : goal.returns-then-len-ge-MAX_STEPS-clause-full
returns-then-len-ge-MAX_STEPS-clause-full g c = search rules

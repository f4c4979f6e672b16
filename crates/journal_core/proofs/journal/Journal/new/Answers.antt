use Rattle.std.proofs.Common.{refl}
use Rattle.journal_core.proofs.journal.Journal.new.Goals as goal

pub returns-clause-bytes : goal.returns-clause-bytes
returns-clause-bytes g c = refl

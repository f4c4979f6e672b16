use Rattle.std.proofs.Common.{ap}
use Rattle.journal_core.proofs.journal.Journal.bytes.Goals as goal

pub returns-clause-bytes : goal.returns-clause-bytes
returns-clause-bytes g c = ap (λ j. j.bytes) c.self.view_is

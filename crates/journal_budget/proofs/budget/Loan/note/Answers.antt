use Rattle.std.proofs.Common.{rules}
use Rattle.journal_budget.proofs.budget.Loan.note.Goals as goal

pub returns : goal.returns
returns c = search rules

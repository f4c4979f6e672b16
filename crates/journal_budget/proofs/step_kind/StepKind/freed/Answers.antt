use Rattle.std.proofs.Common.{rules}
use Rattle.journal_budget.proofs.step_kind.StepKind.freed.Goals as goal

pub returns-in-Lost : goal.returns-in-Lost
returns-in-Lost c = search rules

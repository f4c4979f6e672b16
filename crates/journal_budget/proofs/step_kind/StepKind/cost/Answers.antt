use Rattle.std.proofs.Common.{rules}
use Rattle.journal_budget.proofs.step_kind.StepKind.cost.Goals as goal

pub returns-in-Accepted : goal.returns-in-Accepted
returns-in-Accepted c = search rules

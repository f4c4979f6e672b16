use Rattle.std.proofs.Common.{rules}
use Rattle.journal_budget.proofs.payload.Payload.takes_in.Goals as goal

pub returns-then-self-eq0 : goal.returns-then-self-eq0
returns-then-self-eq0 c = search rules

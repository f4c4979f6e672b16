use Rattle.std.proofs.Common.{rules}
use Rattle.journal_budget.proofs.budget.Budget.lend.Goals as goal

pub invariant_of-self : goal.invariant_of-self
invariant_of-self c = search rules

pub returns-clause-fits : goal.returns-clause-fits
returns-clause-fits c = search rules

pub returns-clause-lent : goal.returns-clause-lent
returns-clause-lent c = search rules

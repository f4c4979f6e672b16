use Rattle.journal_budget.proofs.ErrorLemmas as lemmas
use Rattle.journal_budget.proofs.laws.errors_fit.Goals as goal

pub returns : goal.returns
returns c = lemmas.errors_fit

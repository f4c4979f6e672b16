use Rattle.std.proofs.Common.{arith}
use Rattle.journal_budget.proofs.BudgetLemmas.{owed_is_paid, pays_at_first, pays_once_lent, pays_once_noted, pays_once_settled, owed_fits}
use Rattle.journal_budget.proofs.laws.owed_steps_fit.Goals as goal

pub returns : goal.returns
returns c = record {
  command = λ parts few. omega arith;
  paid = owed_is_paid;
  first = pays_at_first;
  lent = pays_once_lent;
  noted = pays_once_noted;
  settled = pays_once_settled;
  fits = owed_fits;
}

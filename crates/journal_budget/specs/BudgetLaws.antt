-- What follows of the steps of a journal.
use Rattle.std.specs.Prelude.{◌≡◌, ◌≤◌, ◌+◌, ℕ, List, [], ◌∷◌, ◌++◌, All, replicate, sum_by}
use Rattle.journal_budget.specs.declared.step_kind.StepKind.{StepKind}
use Rattle.journal_budget.specs.declared.step_kind.StepKind.TheVariants.{Accepted}
use Rattle.journal_budget.specs.declared.budget.TheConstants.{JOURNAL_STEPS}
use Rattle.limits.specs.declared.journals.TheConstants.{MAX_COMMAND_STEPS}
use Rattle.journal_budget.specs.Steps.{IsOwed, made, owed, cost, freed, cost_of}
use Rattle.journal_budget.specs.Budget.{LoanState, BudgetState, no_loan, no_budget, free_steps, capped, borrowed, lent_more, loan_after, settled}

-- The steps made and those still owed are together what the steps cost, less what they set free.
abbrev pub OwedIsPaid : Type 0
OwedIsPaid = (ks : List StepKind) → IsOwed ks → made ks + owed ks + freed ks ≡ cost ks

-- A command of at most 1,023 parts costs no more than is kept for one.
abbrev pub CommandFits : Type 0
CommandFits = (parts : ℕ) → parts ≤ 1023 → cost_of (Accepted parts) ≤ MAX_COMMAND_STEPS

-- a worker spent no more than it was lent and what it set free
abbrev pub IsWithin : LoanState → Type 0
IsWithin l = l.spent ≤ capped (l.lent + l.freed)

-- These loans are of this budget, and the steps ks were made on them: none spent more than it has, what they were lent the
-- budget has lent, and what the steps cost is spent, but for what they set free.
pub record Pays (b : BudgetState) (ls : List LoanState) (ks : List StepKind) : Type 0 where
  pub within : All IsWithin ls
  pub lent : sum_by (λ l. l.lent) ls ≤ b.lent
  pub spent : cost ks + sum_by (λ l. l.freed) ls ≤ freed ks + b.spent + sum_by (λ l. l.spent) ls
  pub fits : b.spent + b.lent ≤ JOURNAL_STEPS

-- so it is at the beginning, with so many workers
abbrev pub PaysAtFirst : Type 0
PaysAtFirst = (workers : ℕ) → Pays no_budget (replicate workers no_loan) []

-- so it stays where a worker borrows what the budget lends
abbrev pub PaysOnceLent : Type 0
PaysOnceLent = (b : BudgetState) (xs ys : List LoanState) (l : LoanState) (ks : List StepKind) (steps : ℕ)
    → b.spent + b.lent + steps ≤ JOURNAL_STEPS → Pays b (xs ++ l ∷ ys) ks
    → Pays (lent_more steps b) (xs ++ borrowed steps l ∷ ys) ks

-- where a worker makes a step that costs no more than it has free
abbrev pub PaysOnceNoted : Type 0
PaysOnceNoted = (b : BudgetState) (xs ys : List LoanState) (l : LoanState) (ks : List StepKind) (k : StepKind)
    → cost_of k ≤ free_steps l → Pays b (xs ++ l ∷ ys) ks → Pays b (xs ++ loan_after k l ∷ ys) (k ∷ ks)

-- and where a worker settles
abbrev pub PaysOnceSettled : Type 0
PaysOnceSettled = (b : BudgetState) (xs ys : List LoanState) (l : LoanState) (ks : List StepKind)
    → Pays b (xs ++ l ∷ ys) ks → Pays (settled JOURNAL_STEPS l b) (xs ++ no_loan ∷ ys) ks

-- And as long as it is so, every step that is owed fits the journal.
abbrev pub OwedFits : Type 0
OwedFits = (b : BudgetState) (ls : List LoanState) (ks : List StepKind) → Pays b ls ks → IsOwed ks
    → made ks + owed ks ≤ JOURNAL_STEPS

-- What contracts see of a worker's loan and of a journal's budget.
use Rattle.std.specs.Prelude.{ℕ, ◌+◌, ◌-◌, ◌^◌, min}
use Rattle.journal_budget.specs.Steps.{cost_of, freed_of}
use Rattle.journal_budget.specs.declared.step_kind.StepKind.{StepKind}

-- the steps lent, those spent of them, and those set free
pub record LoanState : Type 0 where
  pub lent : ℕ
  pub spent : ℕ
  pub freed : ℕ

-- the steps spent for good, and those lent
pub record BudgetState : Type 0 where
  pub spent : ℕ
  pub lent : ℕ

-- a count stays at the greatest `u64` where it is more
abbrev pub capped : ℕ → ℕ
capped n = min n (2 ^ 64 - 1)

-- the loan of which nothing is lent and nothing spent
abbrev pub no_loan : LoanState
no_loan = record { lent = 0; spent = 0; freed = 0 }

-- the steps that may still be spent
abbrev pub free_steps : LoanState → ℕ
free_steps l = capped (l.lent + l.freed) - l.spent

-- a loan once a step was made
abbrev pub loan_after : StepKind → LoanState → LoanState
loan_after k l = record { lent = l.lent; spent = capped (l.spent + capped (cost_of k)); freed = capped (l.freed + freed_of k) }

-- a loan once this many more steps were lent to it
abbrev pub borrowed : ℕ → LoanState → LoanState
borrowed steps l = record l { lent = capped (l.lent + steps) }

-- the budget of which nothing is spent for good and nothing lent
abbrev pub no_budget : BudgetState
no_budget = record { spent = 0; lent = 0 }

-- a budget once this many more steps were lent
abbrev pub lent_more : ℕ → BudgetState → BudgetState
lent_more steps b = record b { lent = b.lent + steps }

-- A budget once a worker has settled: what it was lent is given back, and what it spent more than it set free is spent for good,
-- as far as it fits. Where it set more free than it spent, that is free again.
abbrev pub settled : ℕ → LoanState → BudgetState → BudgetState
settled most l b = record {
  spent = min (b.spent + (l.spent - l.freed) - (l.freed - l.spent)) (most - (b.lent - l.lent));
  lent = b.lent - l.lent;
}

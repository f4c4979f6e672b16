-- What contracts see of the ledger that a worker used last.
use Rattle.std.specs.Prelude.{◌≡◌, ◌≤◌, ℕ}
use Rattle.journal_budget.specs.Budget.{LoanState, borrowed}
use Rattle.journal_budget.specs.Ledger.{LedgerState}

-- its name, which no other ledger has, and the ledger as the worker found it
pub record UsedLedger : Type 0 where
  pub name : ℕ
  pub found : LedgerState

-- so many steps or more were lent to the loan
abbrev pub LendsAtLeast : ℕ → LoanState → LoanState → Type 0
LendsAtLeast least old new = (steps : ℕ) × (least ≤ steps) × (new ≡ borrowed steps old)

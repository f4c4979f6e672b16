-- What contracts see of the ledger of a journal.
use Rattle.std.specs.Prelude.{◌≤◌, ◌+◌, ◌-◌, ℕ}
use Rattle.limits.specs.declared.journals.TheConstants.{MAX_STEPS}
use Rattle.journal_budget.specs.declared.payload_counts.PayloadCounts.{PayloadCounts}
use Rattle.journal_budget.specs.Budget.{BudgetState, capped, no_budget, lent_more}
use Rattle.journal_budget.specs.Payload.{PayloadState, no_payload}
use Rattle.journal_budget.specs.Counts.{no_bytes, with_bytes}

-- the budget, the bytes of payload that the workers have reported, the bytes of large replies that are coming, what commands in
-- flight are charged, and the steps that were made
pub record LedgerState : Type 0 where
  pub budget : BudgetState
  pub bytes : PayloadCounts
  pub coming : ℕ
  pub charged : ℕ
  pub steps : ℕ

-- the ledger of an empty journal
abbrev pub empty_ledger : LedgerState
empty_ledger = record { budget = no_budget; bytes = no_bytes; coming = 0; charged = 0; steps = 0 }

-- so many steps of a journal are left: they fit beside those spent and lent
abbrev pub HasLeft : ℕ → LedgerState → Type 0
HasLeft steps l = l.budget.spent + l.budget.lent + steps ≤ MAX_STEPS

-- a ledger once this many more steps were lent
abbrev pub lends_more : ℕ → LedgerState → LedgerState
lends_more steps l = record l { budget = lent_more steps l.budget }

-- the payload of a journal whose generation began with this average of payload bytes a step
abbrev pub payload_in : ℕ → LedgerState → PayloadState
payload_in average l = with_bytes l.bytes (no_payload average l.charged)

-- a ledger once a worker has reported so many steps
abbrev pub with_steps : ℕ → LedgerState → LedgerState
with_steps steps l = record l { steps = capped (l.steps + steps) }

-- a ledger once so many bytes of a large reply have come, of which the ledger knew of some before
abbrev pub with_coming : ℕ → ℕ → LedgerState → LedgerState
with_coming came before l = record l { coming = capped (l.coming - before + came) }

-- a ledger once a client's commands in flight are charged so much, of which the ledger knew of some before
abbrev pub with_charge : ℕ → ℕ → LedgerState → LedgerState
with_charge charge before l = record l { charged = capped (l.charged - before + charge) }

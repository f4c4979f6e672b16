-- What the workers of a generation have reported of their payload.
use Rattle.std.specs.Prelude.{◌≡◌, ◌≤◌, ◌-◌, ◌^◌, ℕ, Bool, true}
use Rattle.journal_budget.specs.Payload.{PayloadState, average_of, IsFarFromFull}
use Rattle.journal_budget.specs.Ledger.{LedgerState, payload_in}

-- the payload, and the owed steps that have some
pub record ReportedState : Type 0 where
  pub payload : PayloadState
  pub owed : ℕ

-- what a ledger says, where the generation began with this average of payload bytes a step and so many owed steps have payload
abbrev pub reported_of : ℕ → ℕ → LedgerState → ReportedState
reported_of average owed l = record { payload = payload_in average l; owed = owed }

-- no sum passes the greatest `u64`
abbrev pub IsInRange : PayloadState → Type 0
IsInRange p = (p.handed ≤ 2 ^ 64 - 1) × (p.steps ≤ 2 ^ 64 - 1)

-- what is kept beside it: the average, and whether the journal is far from full
pub record IsReported (payload : PayloadState) (owed average : ℕ) (is_far : Bool) : Type 0 where
  pub in_range : IsInRange payload
  pub average_is : average ≡ average_of payload
  pub far : is_far ≡ true → IsFarFromFull payload owed

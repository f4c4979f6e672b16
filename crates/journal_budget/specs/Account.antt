-- What contracts see of a worker's account: what a step adds to it, and the payload and steps that it knows of.
use Rattle.std.specs.Prelude.{◌+◌, ◌-◌, ◌*◌, ℕ}
use Rattle.limits.specs.declared.journals.TheConstants.{MAX_STEPS}
use Rattle.journal_budget.specs.declared.step_kind.StepKind.{StepKind}
use Rattle.journal_budget.specs.declared.step_kind.StepKind.TheVariants as kinds
use Rattle.journal_budget.specs.declared.turn_counts.TurnCounts.{TurnCounts}
use Rattle.journal_budget.specs.declared.payload_counts.PayloadCounts.{PayloadCounts}
use Rattle.journal_budget.specs.Steps.{cost_of}
use Rattle.journal_budget.specs.Budget.{LoanState, capped, no_loan, loan_after, settled}
use Rattle.journal_budget.specs.Payload.{PayloadState}
use Rattle.journal_budget.specs.Reported.{ReportedState, reported_of}
use Rattle.journal_budget.specs.Ledger.{LedgerState, empty_ledger}
use Rattle.journal_budget.specs.Counts.{no_counts, counted, no_bytes, plus, with_bytes}

-- What happened, the steps lent, the steps since the last settlement and their cost, the bytes since the last report, and what
-- all workers had reported then.
pub record AccountState : Type 0 where
  pub counts : TurnCounts
  pub loan : LoanState
  pub steps : ℕ
  pub cost : ℕ
  pub bytes : PayloadCounts
  pub reported : ReportedState

-- ---- what a step adds

-- the account of no steps, to which nothing was lent
abbrev pub no_account : AccountState
no_account = record {
  counts = no_counts;
  loan = no_loan;
  steps = 0;
  cost = 0;
  bytes = no_bytes;
  reported = reported_of 0 0 empty_ledger;
}

-- an account once a step of this kind was made, with these bytes
abbrev pub stepped_with : StepKind → PayloadCounts → AccountState → AccountState
stepped_with kind bytes a = record a {
  counts = counted kind bytes.handed a.counts;
  loan = loan_after kind a.loan;
  steps = capped (a.steps + 1);
  cost = capped (a.cost + capped (cost_of kind));
  bytes = plus a.bytes bytes;
}

-- ---- what it reports and knows

-- the ledger once the worker has reported its payload
abbrev pub with_payload : AccountState → LedgerState → LedgerState
with_payload a l = record l { bytes = plus l.bytes a.bytes }

-- the ledger once it has settled: its steps, its loan and its payload are reported
abbrev pub with_account : AccountState → LedgerState → LedgerState
with_account a l = record (with_payload a l) { budget = settled MAX_STEPS a.loan l.budget; steps = capped (l.steps + a.steps) }

-- an account once its payload was reported to this ledger, of a generation that began with this average of payload bytes a step,
-- while so many owed steps have payload
abbrev pub reported_to : LedgerState → ℕ → ℕ → AccountState → AccountState
reported_to l average owed a = record a { bytes = no_bytes; reported = reported_of average owed l }

-- the owed steps of a ledger that have payload, with so many open connections: what one owes for its end has none
abbrev pub owed_with_payload : ℕ → LedgerState → ℕ
owed_with_payload connections l = l.budget.spent - l.steps - capped (connections * capped (cost_of kinds.Opened))

-- an account once it was settled with this ledger, of a generation that began with this average, with so many open connections
abbrev pub settled_with : LedgerState → ℕ → ℕ → AccountState → AccountState
settled_with l average connections a =
    record (reported_to l average (owed_with_payload connections l) a) { loan = no_loan; steps = 0; cost = 0 }

-- the journal's payload as far as the worker knows: what all had reported when it last looked, and its own since
abbrev pub known : AccountState → PayloadState
known a = with_bytes a.bytes a.reported.payload

-- the owed steps that have payload, as far as it knows
abbrev pub owed_steps : AccountState → ℕ
owed_steps a = capped (a.reported.owed + a.cost) - a.steps

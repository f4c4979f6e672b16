-- What contracts see of the payload of a journal.
use Rattle.std.specs.Prelude.{◌≡◌, ◌≤◌, ◌⊎◌, ◌+◌, ◌-◌, ◌*◌, ◌/◌, ℕ, max, min, nat_lt, if◌then◌else◌}
use Rattle.journal_budget.specs.Budget.{capped}
use Rattle.limits.specs.declared.journals.TheConstants.{MAX_BYTES}
use Rattle.limits.specs.declared.journals.TheConstants.{MAX_REPLY_BYTES}
use Rattle.limits.specs.declared.reads.TheConstants.{READ_SIZE}
use Rattle.journal_budget.specs.declared.payload.TheConstants.{MAX_ERROR_BYTES, FAR_BYTES, FAR_STEPS, FIRST_STEPS, MAX_AVERAGE}

-- bytes of payload in the journal, bytes of replies that came, with those of the proxy itself, bytes handed out to clients, those
-- that were due, the steps that these are averaged over, the average of the generation before, and what commands in flight are charged
pub record PayloadState : Type 0 where
  pub used : ℕ
  pub came : ℕ
  pub handed : ℕ
  pub due : ℕ
  pub steps : ℕ
  pub before : ℕ
  pub charged : ℕ

-- no payload, where the last generation had this average of bytes a step and commands are charged so much
abbrev pub no_payload : ℕ → ℕ → PayloadState
no_payload average charged = record { used = 0; came = 0; handed = 0; due = 0; steps = 0; before = average; charged = charged }

-- the journal's own bytes a step that were due, where steps that lack of FIRST_STEPS count as made without any; at most MAX_AVERAGE
abbrev pub own_average : PayloadState → ℕ
own_average p = min MAX_AVERAGE (p.due / max p.steps FIRST_STEPS)

-- How many bytes a step has: the journal's own average, and while it has few steps at least the one before.
abbrev pub average_of : PayloadState → ℕ
average_of p = if nat_lt p.steps FIRST_STEPS then max (own_average p) p.before else own_average p

-- the average with which the next generation begins: its own, and at least half of the one before
abbrev pub next_average_of : PayloadState → ℕ
next_average_of p = max (own_average p) (p.before / 2)

-- the bytes there, and those of replies that came and are still to be handed out
abbrev pub kept_bytes : PayloadState → ℕ
kept_bytes p = p.used + (p.came - p.handed)

-- the bytes that so many owed steps may bring: twice the average each, since the two that a command owes once it was sent bring
-- what its four have, at least two greatest replies and their handing out, and at least what is charged
abbrev pub owed_bytes : PayloadState → ℕ → ℕ
owed_bytes p owed = max (max (owed * average_of p * 2) (4 * MAX_REPLY_BYTES)) p.charged

-- A further command of a client with n unfinished bytes has room: what is kept, what the owed steps may bring, the texts of errors,
-- and n bytes of the command and n of its answer fit. Where nothing is owed and there is no payload, it always has.
abbrev pub HasRoomForCommand : PayloadState → ℕ → ℕ → Type 0
HasRoomForCommand p owed unfinished =
    (kept_bytes p + owed_bytes p owed + MAX_ERROR_BYTES + 2 * unfinished ≤ MAX_BYTES) ⊎ ((owed ≡ 0) × (p.used ≡ 0))

-- Hosts' replies of which n bytes have come have room: what is kept, n bytes and one more read, as many to hand them out, and
-- the texts of errors fit.
abbrev pub HasRoomForReply : PayloadState → ℕ → Type 0
HasRoomForReply p unfinished = kept_bytes p + 2 * (unfinished + READ_SIZE) + MAX_ERROR_BYTES ≤ MAX_BYTES

-- To a journal no more than FAR_BYTES bytes of payload came since, of them no more are still to be handed out, and no more were due.
-- No more is charged.
pub record HasGrown (old new : PayloadState) : Type 0 where
  pub used : new.used ≤ old.used + FAR_BYTES
  pub came : new.came - new.handed ≤ old.came - old.handed + FAR_BYTES
  pub due : new.due ≤ capped (old.due + FAR_BYTES)
  pub steps : old.steps ≤ new.steps
  pub charged : new.charged ≤ old.charged

-- with up to FAR_BYTES more payload and FAR_STEPS more steps owed it still has room for a command and for replies, up to
-- FAR_BYTES bytes of them unfinished
abbrev pub IsFarFromFull : PayloadState → ℕ → Type 0
IsFarFromFull p owed = (new : PayloadState) (owes unfinished : ℕ) → HasGrown p new → owes ≤ capped (owed + FAR_STEPS)
    → unfinished ≤ FAR_BYTES → HasRoomForCommand new owes unfinished × HasRoomForReply new unfinished

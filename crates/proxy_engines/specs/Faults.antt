-- What a move of a host's engine came to, and why a link broke.
use Rattle.std.specs.Prelude.{◌≡◌, ◌≢◌, ◌⊎◌, ◌≤◌, ◌-◌, ⊤, ℕ, Bool, true, false, List, [], ◌∷◌, Option, Some, None, Result, Ok, Err}
use Rattle.std.specs.Io.KnownBytes.{IsAtEnd}
use Rattle.proxy_history.specs.History.{Step}
use Rattle.proxy_history.specs.declared.event.Event.{Event}
use Rattle.proxy_history.specs.declared.event.Kind.{Kind}
use Rattle.proxy_history.specs.declared.refusal.Refusal.{Refusal}
use Rattle.resp_core.specs.declared.value.Value.{Value}
use Rattle.proxy_devices.specs.Device.{HasRisen}
use Rattle.proxy_engines.specs.Ends.{InboxState, HasGivenAll, Reads}
use Rattle.proxy_engines.specs.Host.{HostOutboxState, LinkState}
use Rattle.proxy_engines.specs.OneTurn.{IsDueError}
use Rattle.engine_work.specs.declared.error.Denied.{Denied}
use Rattle.engine_work.specs.declared.error.EngineError.{EngineError}
use Rattle.proxy_engines.specs.declared.link.Outcome.{Outcome}

-- whether a move came to a fault
abbrev pub is_fault : Outcome → Bool
is_fault (Outcome.Fault kind error) = true
is_fault Outcome.Moved = false
is_fault Outcome.Idle = false

-- what a move tells, up to a fault
abbrev pub told_by_outcome : Outcome → Option Bool
told_by_outcome Outcome.Moved = Some true
told_by_outcome Outcome.Idle = Some false
told_by_outcome (Outcome.Fault kind error) = None

-- what the answer of some moves tells: that something moved, or that nothing did
abbrev pub told_by_moves : Result Outcome EngineError → Option Bool
told_by_moves (Ok outcome) = told_by_outcome outcome
told_by_moves (Err e) = None

-- an error that tells of no device
abbrev pub IsOfNoDevice : EngineError → Type 0
IsOfNoDevice EngineError.NoMemory = ⊤
IsOfNoDevice (EngineError.TurnRefused denied) = ⊤
IsOfNoDevice e = ⊥

-- the same of a host's engine: where that is astray, since another caller failed its host, the error may tell so
abbrev pub IsDueErrorOn : (Refusal → Event → List Step → Type 0) → List Step → HostOutboxState → EngineError → Type 0
IsDueErrorOn cause seen outbox error = IsDueError cause seen error ⊎ ((outbox.is_astray ≡ true) × (error ≡ EngineError.TurnRefused Denied.Astray))

-- an error that tells of no device, and of a turn only where it was refused so
abbrev pub IsPlain : (Refusal → Event → List Step → Type 0) → List Step → HostOutboxState → EngineError → Type 0
IsPlain cause seen outbox error = IsOfNoDevice error × IsDueErrorOn cause seen outbox error

-- the first of two moves at which anything came, or the second
abbrev pub either : Outcome → Outcome → Outcome
either Outcome.Idle other = other
either Outcome.Moved other = Outcome.Moved
either (Outcome.Fault kind error) other = Outcome.Fault kind error

-- what holds of a fault, where a move came to one
abbrev pub IfFault : Outcome → (Kind → Option EngineError → Type 0) → Type 0
IfFault (Outcome.Fault kind error) P = P kind error
IfFault Outcome.Moved P = ⊤
IfFault Outcome.Idle P = ⊤

-- the oldest part without reply was taken so long ago
abbrev pub IsLate : HostOutboxState → ℕ → Type 0
IsLate outbox moment = (first : ℕ) × (rest : List ℕ) × (outbox.moments ≡ first ∷ rest) × (outbox.reply_ms ≤ moment - first)

-- a read was made, which didn't fail: it brought bytes, or it paused
abbrev pub HasRead : InboxState → InboxState → Type 0
HasRead old new =
    (new.counts.failed ≡ old.counts.failed)
    × (((got : List ℕ) × (got ≢ []) × Reads old new got) ⊎ HasRisen old.counts.paused new.counts.paused)

-- from one state of a link to the next neither its reader nor its writer has failed
abbrev pub HasNoFaultOn : LinkState → LinkState → Type 0
HasNoFaultOn old new = (new.inbox.counts.failed ≡ old.inbox.counts.failed) × (new.counts.failed ≡ old.counts.failed)

-- a link before and after some moves
pub record LinkMove : Type 0 where
  pub old : LinkState
  pub new : LinkState

-- A reply is late on a link: the oldest part without reply was taken so long ago, though a read was made by these moves, and each
-- value that came was answered.
pub record IsLateOn (outbox : HostOutboxState) (move : LinkMove) (moment : ℕ) : Type 0 where
  pub late : IsLate outbox moment
  pub reads : HasRead move.old.inbox move.new.inbox
  pub none_waits : move.new.next ≡ None
  pub all : HasGivenAll move.new.inbox

-- a value waits for its turn that was refused since nobody asked for it
abbrev pub IsUnaskedNow : (Event → List Step → Type 0) → List Step → ℕ → HostOutboxState → LinkState → Type 0
IsUnaskedNow cause seen moment outbox link = (value : Value) × (link.next ≡ Some value)
    × cause (Event.Answered outbox.host outbox.epoch value moment) seen

-- A device gave the fault, which has this kind and error: the input ended, or a read or a write failed.
abbrev pub IsOfDevice : LinkMove → Kind → Option EngineError → Type 0
IsOfDevice move Kind.Dropped None = IsAtEnd move.new.inbox.left
IsOfDevice move Kind.Dropped (Some EngineError.ReadFailed) = HasRisen move.old.inbox.counts.failed move.new.inbox.counts.failed
IsOfDevice move Kind.Dropped (Some EngineError.WriteFailed) = HasRisen move.old.counts.failed move.new.counts.failed
IsOfDevice move kind error = ⊥

-- Why a link broke by these moves: a device gave the fault; a byte was refused, or a value came that nobody asked for; or a reply
-- is late. `unasked` and `late` say so.
abbrev pub IsCauseOf : Type 0 → Type 0 → LinkMove → Kind → Option EngineError → Type 0
IsCauseOf unasked late move Kind.Garbled None = (move.new.inbox.values.refusal ≢ None) ⊎ unasked
IsCauseOf unasked late move Kind.Late None = late
IsCauseOf unasked late move kind error = IsOfDevice move kind error

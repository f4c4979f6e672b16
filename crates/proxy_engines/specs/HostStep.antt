-- What a step of a host's engine does.
use Rattle.std.specs.Prelude.{◌≡◌, ◌≢◌, IfSome, ◌⊎◌, ⊤, ℕ, Bool, true, false, List, [], Option, Some, None, Result, Ok, Err, IsErrAnd}
use Rattle.resp_core.specs.declared.value.Value.{Value}
use Rattle.proxy_history.specs.History.{History, Step}
use Rattle.proxy_history.specs.declared.event.Event.{Event}
use Rattle.proxy_history.specs.declared.event.Kind.{Kind}
use Rattle.proxy_devices.specs.Device.{HasRisen}
use Rattle.proxy_engines.specs.Host.{HostEnds, HostMove, HostOutboxState, LinkState, GoesOn, FailsHost}
use Rattle.proxy_engines.specs.OneTurn.{HasHeld}
use Rattle.proxy_engines.specs.Faults.{IsLate, IsLateOn, IsCauseOf, IsOfNoDevice}
use Rattle.proxy_engines.specs.LinkFaults.{Names}
use Rattle.proxy_engines.specs.declared.client.Progress.{Progress}
use Rattle.proxy_engines.specs.declared.link_fault.LinkFault.{LinkFault}
use Rattle.engine_work.specs.EngineError.{IsTurnRefused}
use Rattle.engine_work.specs.declared.error.EngineError.{EngineError}

-- a host's engine, the fault that is still to be recorded, and the last fault, recorded or not
pub record HostState : Type 0 where
  pub outbox : HostOutboxState
  pub link : Option LinkState
  pub fault : Option Kind
  pub last_fault : Option LinkFault

-- the ends of an engine
abbrev pub ends_of : HostState → HostEnds
ends_of engine = record { outbox = engine.outbox; link = engine.link }

-- A call of a host's engine at one moment: the engine before and after it, and its caller's steps before and after it.
pub record HostCall : Type 0 where
  pub old : HostState
  pub new : HostState
  pub before : History
  pub after : History
  pub moment : ℕ

-- what a call does to the engine's ends
abbrev pub move_of : HostCall → HostMove
move_of call = record { old = ends_of call.old; new = ends_of call.new; before = call.before; after = call.after; moment = call.moment }

-- the part of a call up to this state of the engine, and these steps
abbrev pub up_to : HostCall → HostState → History → HostCall
up_to call between steps = record call { new = between; after = steps }

-- the part of a call behind this state of the engine, and these steps
abbrev pub behind : HostCall → HostState → History → HostCall
behind call between steps = record call { old = between; before = steps }

-- while no fault is to be recorded, the link's reader has refused nothing
abbrev pub IsWhole : Option Kind → Option LinkState → Type 0
IsWhole None (Some k) = k.inbox.values.refusal ≡ None
IsWhole f k = ⊤

-- a value came that nobody asked for: its turn is refused for that
abbrev pub IsUnasked : (Event → List Step → Type 0) → List Step → List Step → ℕ → HostOutboxState → LinkState → Type 0
IsUnasked cause seen_before seen_after moment outbox link = (value : Value) × (link.next ≡ Some value)
    × HasHeld cause (Event.Answered outbox.host outbox.epoch value moment) seen_before seen_after

-- why a fault came without a link, or between two states of one; a link that comes or goes is no cause
abbrev pub IsCausedBetween : (LinkState → LinkState → Type 0) → Type 0 → Option LinkState → Option LinkState → Type 0
IsCausedBetween on alone None None = alone
IsCausedBetween on alone (Some old) (Some new) = on old new
IsCausedBetween on alone old new = ⊥

-- Why a fault of this kind came by these moves, and the error that tells it. `unasked` says that a value came that nobody asked
-- for.
abbrev pub IsCausedOn : (HostOutboxState → LinkState → Type 0) → HostMove → Kind → Option EngineError → Type 0
IsCausedOn unasked move kind error = IsCausedBetween
    (λ old new. IsCauseOf (unasked move.new.outbox new) (IsLateOn move.new.outbox (record { old = old; new = new }) move.moment)
    (record { old = old; new = new }) kind error)
    ((kind ≡ Kind.Late) × (error ≡ None) × IsLate move.new.outbox move.moment)
    move.old.link move.new.link

-- an engine that its caller gives up: that is its fault, where none is still to be recorded
abbrev pub given_up : HostState → HostState
given_up engine = unless engine.fault
  where
    unless : Option Kind → HostState
    unless None = record engine { last_fault = Some LinkFault.GivenUp }
    unless (Some kind) = engine

-- an engine for which no link could be made: that is its fault
abbrev pub refused_link : HostState → HostState
refused_link engine = record engine { fault = Some Kind.Refused; last_fault = Some LinkFault.Refused }

-- a fault is recorded, which was the last one, and still is
pub record Records (call : HostCall) (kind : Kind) : Type 0 where
  pub fails : FailsHost (move_of call) kind
  pub fault : call.new.fault ≡ None
  pub named : Names kind call.old.link call.old.last_fault
  pub last : call.new.last_fault ≡ call.old.last_fault

-- what a step answers that recorded a fault
abbrev pub answer_of : Option EngineError → Result Progress EngineError
answer_of None = Ok Progress.Moved
answer_of (Some e) = Err e

-- A fault is recorded, and the answer tells its error; or its turn is refused, and it is left to the next step.
abbrev pub TellsFault : HostCall → Kind → Option EngineError → Result Progress EngineError → Type 0
TellsFault call kind error result =
    (Records call kind × (result ≡ answer_of error))
    ⊎ ((call.new ≡ record call.old { fault = Some kind }) × (call.after ≡ call.before)
    × IsErrAnd result IsTurnRefused)

-- what a step that recorded no fault answers: whether anything moved, and nothing of a device
abbrev pub IsAnswered : Bool → Result Progress EngineError → Type 0
IsAnswered moved (Ok Progress.Moved) = moved ≡ true
IsAnswered moved (Ok Progress.Idle) = moved ≡ false
IsAnswered moved (Ok Progress.NeedsLink) = ⊤
IsAnswered moved (Err e) = IsOfNoDevice e
IsAnswered moved result = ⊥

-- Moves on the link or without one, and then a fault for its cause, if there is one, which is recorded or left to the next
-- step.
pub record WorksHost (unasked : HostOutboxState → LinkState → Type 0) (call : HostCall)
    (result : Result Progress EngineError) : Type 0 where
  pub last : HostState
  pub between : History
  pub moved : Bool
  pub goes : GoesOn (move_of (up_to call last between)) moved
  pub ends : ((call.new.outbox ≡ last.outbox) × (call.new.link ≡ last.link) × (call.after ≡ between) × IsAnswered moved result
      × IfSome call.new.fault (λ kind. (error : Option EngineError) × IsCausedOn unasked (move_of (up_to call last between)) kind error))
      ⊎ ((kind : Kind) × (error : Option EngineError) × Records (behind call last between) kind
      × IsCausedOn unasked (move_of (up_to call last between)) kind error × (result ≡ answer_of error))

-- what a step answers that recorded an earlier fault, by what it answers of its own work
abbrev pub after_fault : Result Progress EngineError → Result Progress EngineError
after_fault (Ok Progress.NeedsLink) = Ok Progress.NeedsLink
after_fault (Ok progress) = Ok Progress.Moved
after_fault (Err e) = Err e

-- the fault of an earlier step can't be recorded, and nothing else is done
abbrev pub RestsHost : HostCall → Result Progress EngineError → Type 0
RestsHost call result = (call.old.fault ≢ None) × (call.new ≡ call.old) × (call.after ≡ call.before)
    × IsErrAnd result IsTurnRefused

-- A step: the fault of an earlier step is recorded, if there is one, and the work goes on.
pub record StepsHost (unasked : HostOutboxState → LinkState → Type 0) (call : HostCall)
    (result : Result Progress EngineError) : Type 0 where
  pub first : HostState
  pub between : History
  pub answer : Result Progress EngineError
  pub begins : ((first ≡ call.old) × (between ≡ call.before) × (result ≡ answer))
      ⊎ ((kind : Kind) × (call.old.fault ≡ Some kind) × Records (up_to call first between) kind × (result ≡ after_fault answer))
  pub whole : first.fault ≡ None
  pub works : WorksHost unasked (behind call first between) answer

-- why nothing moved: nothing could be read; and nothing could be written, or nothing was pending and no part waited, as
-- `none_waited` says
abbrev pub IsIdleOn : Type 0 → HostOutboxState → Option LinkState → Option LinkState → Type 0
IsIdleOn none_waited outbox None None = (outbox.pending ≡ []) × none_waited
IsIdleOn none_waited outbox (Some old) (Some new) =
    HasRisen old.inbox.counts.paused new.inbox.counts.paused
    × (HasRisen old.counts.paused new.counts.paused ⊎ ((outbox.pending ≡ []) × none_waited))
IsIdleOn none_waited outbox old new = ⊥

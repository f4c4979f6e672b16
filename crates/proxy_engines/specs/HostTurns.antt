-- What the functions of a host's engine come to that make turns.
use Rattle.std.specs.Prelude.{◌≡◌, ◌≢◌, ◌⊎◌, ◌↔◌, ℕ, Bool, false, Option, List, [], Result, Ok, IfOk, IfErr, IfSome, OnOk, OnErr, None, Some}
use Rattle.proxy_history.specs.History.{Step}
use Rattle.proxy_history.specs.declared.event.Event.{Event}
use Rattle.proxy_history.specs.declared.event.Kind.{Kind}
use Rattle.proxy_history.specs.declared.refusal.Refusal.{Refusal}
use Rattle.proxy_devices.specs.Device.{HasRisen}
use Rattle.proxy_engines.specs.Turns.{CoreTurnFacts, KeepsTurns, own_history}
use Rattle.proxy_engines.specs.OneTurn.{HasHeld}
use Rattle.proxy_engines.specs.Moves.{AsTold}
use Rattle.proxy_engines.specs.Ends.{HasGivenAll}
use Rattle.proxy_engines.specs.Faults.{HasNoFaultOn, IsDueErrorOn, IsLate, IsPlain}
use Rattle.proxy_engines.specs.Host.{FailsHost, GetsReplies, GoesOn, HostEnds, HostOutboxState, LinkState}
use Rattle.proxy_engines.specs.LinkSteps.{IsCalmOn}
use Rattle.proxy_engines.specs.HostStep.{HostCall, HostState, IsIdleOn, IsUnasked, Records, RestsHost, StepsHost, WorksHost}
use Rattle.proxy_engines.specs.declared.client.Progress.{Progress}
use Rattle.engine_work.specs.EngineError.{IsTurnRefused}
use Rattle.engine_work.specs.declared.error.EngineError.{EngineError}

module _ {Home Setting : Type 0} (cause : Setting → Refusal → Event → List Step → Type 0)
    (before after : CoreTurnFacts Home Setting) where
  -- Some turns were made, or none, from `before` to `after`. The outbox and its link made moves, whether any as was told; and an
  -- error tells of no device, and of a turn why it was refused.
  pub record MovesEnds {Answered : Type 0} (old new : HostEnds) (moment : ℕ) (told : Option Bool)
      (result : Result Answered EngineError) : Type 0 where
    pub turns : KeepsTurns before after
    pub goes : AsTold (GoesOn (record {
      old = old;
      new = new;
      before = own_history before;
      after = own_history after;
      moment = moment;
    })) told
    pub plain : IfErr result (IsPlain (cause before.setting) after.seen new.outbox)

  -- One fault of this kind is recorded, by one turn, and the link is given up, if there is one; or that turn was refused, the error
  -- tells why, and the outbox is as it was.
  pub record FailsOutbox {Answered : Type 0} (old new : HostOutboxState) (kind : Kind) (moment : ℕ)
      (result : Result Answered EngineError) : Type 0 where
    pub turns : KeepsTurns before after
    pub fails : OnOk result ((link : Option LinkState) → FailsHost (record {
      old = record { outbox = old; link = link };
      new = record { outbox = new; link = None };
      before = own_history before;
      after = own_history after;
      moment = moment;
    }) kind)
    pub same : OnErr result ((new ≡ old) × (own_history after ≡ own_history before))
    pub err : IfErr result IsTurnRefused
    pub due : IfErr result (IsDueErrorOn (cause before.setting) after.seen new)

  -- a call of the engine, over the turns from `before` to `after`
  abbrev pub call_of : HostState → HostState → ℕ → HostCall
  call_of old new moment = record {
    old = old;
    new = new;
    before = own_history before;
    after = own_history after;
    moment = moment;
  }

  -- What the answer of a call tells that began with this engine: no fault is still to be recorded, and no reply is late. A link
  -- that stays has not failed, and where no fault was to be recorded each value that came on it was answered. `NeedsLink` tells
  -- that bytes are pending without a link, and `Idle` why nothing moved.
  pub record TellsHost (old new : HostState) (moment : ℕ) (result : Result Progress EngineError) : Type 0 where
    pub recorded : OnOk result (new.fault ≡ None)
    pub unfailed : OnOk result (IfSome old.link (λ before. IfSome new.link (HasNoFaultOn before)))
    pub answered : OnOk result (old.fault ≡ None
        → IfSome old.link (λ _. IfSome new.link (λ link. (link.next ≡ None) × HasGivenAll link.inbox)))
    pub in_time : IfOk result (λ _. ¬ IsLate new.outbox moment)
    pub needs_link : IfOk result (λ p. (p ≡ Progress.NeedsLink) ↔ ((new.link ≡ None) × (new.outbox.pending ≢ [])))
    pub idle : IfOk result (λ p. p ≡ Progress.Idle → IsIdleOn
        (HasHeld (cause before.setting Refusal.NothingWaiting) (Event.Taken old.outbox.host) before.seen after.seen)
        old.outbox old.link new.link)

  -- Some turns were made, or none, from `before` to `after`. The engine worked on its link or without one, as the answer tells, and
  -- where a turn was refused the error tells why.
  pub record MovesHost (old new : HostState) (moment : ℕ) (result : Result Progress EngineError) : Type 0 where
    pub turns : KeepsTurns before after
    pub works : WorksHost (IsUnasked (cause before.setting Refusal.Unasked) before.seen after.seen moment)
        (call_of old new moment) result
    pub due : IfErr result (IsDueErrorOn (cause before.setting) after.seen new.outbox)
    pub tells : TellsHost old new moment result

  -- A step over the turns from `before` to `after`: it does its work, or an earlier fault can't be recorded. Where a turn was
  -- refused the error tells why.
  pub record MakesStep (old new : HostState) (moment : ℕ) (result : Result Progress EngineError) : Type 0 where
    pub turns : KeepsTurns before after
    pub steps : StepsHost (IsUnasked (cause before.setting Refusal.Unasked) before.seen after.seen moment)
        (call_of old new moment) result
        ⊎ RestsHost (call_of old new moment) result
    pub due : IfErr result (IsDueErrorOn (cause before.setting) after.seen new.outbox)

  -- Some turns were made, or none, from `before` to `after`: a fault of this kind is recorded, and the link given up; or that
  -- turn was refused, and the fault left to the next step.
  pub record RecordsFault {Answered : Type 0} (old new : HostState) (kind : Kind) (moment : ℕ)
      (result : Result Answered EngineError) : Type 0 where
    pub turns : KeepsTurns before after
    pub records : OnOk result (Records (call_of old new moment) kind)
    pub kept : OnErr result ((new ≡ record old { fault = Some kind })
        × (own_history after ≡ own_history before))
    pub err : IfErr result IsTurnRefused
    pub due : IfErr result (IsDueErrorOn (cause before.setting) after.seen new.outbox)

  -- Where no fault was to be recorded: the engine wrote on its link or took a part, if there is one, as the answer tells, and read
  -- nothing. It is idle where the writer paused, or where nothing was pending and no part waited.
  pub record SendsHost (old new : HostState) (moment : ℕ) (result : Result Progress EngineError) : Type 0 where
    pub turns : KeepsTurns before after
    pub works : WorksHost (IsUnasked (cause before.setting Refusal.Unasked) before.seen after.seen moment)
        (call_of old new moment) result
    pub unread : OnOk result (IfSome old.link (λ j. IfSome new.link (λ k. (k.inbox ≡ j.inbox) × (k.next ≡ j.next))))
    pub idle : IfOk result (λ p. p ≡ Progress.Idle → IfSome old.link (λ j. IfSome new.link (λ k.
        HasRisen j.counts.paused k.counts.paused
        ⊎ ((old.outbox.pending ≡ []) × cause before.setting Refusal.NothingWaiting (Event.Taken old.outbox.host) after.seen))))
    pub due : IfErr result (IsDueErrorOn (cause before.setting) after.seen new.outbox)

  -- Where no fault was to be recorded: the engine made replies of what it read on its link, if there is one, as the answer tells. It
  -- took no part and wrote nothing. A link that stays has not failed, each value that came on it was answered, and no reply is late.
  -- It is idle where the reader paused.
  pub record ReceivesHost (old new : HostState) (moment : ℕ) (result : Result Progress EngineError) : Type 0 where
    pub turns : KeepsTurns before after
    pub works : WorksHost (IsUnasked (cause before.setting Refusal.Unasked) before.seen after.seen moment)
        (call_of old new moment) result
    pub untaken : IfSome new.link (λ _. GetsReplies old.outbox new.outbox)
    pub unwritten : IfSome old.link (λ j. IfSome new.link (λ k. k.counts ≡ j.counts))
    pub calm : OnOk result (IfSome old.link (λ j. IfSome new.link (λ k. IsCalmOn j k new.outbox moment)))
    pub idle : IfOk result (λ p. p ≡ Progress.Idle → IfSome old.link (λ j. IfSome new.link (λ k.
        HasRisen j.inbox.counts.paused k.inbox.counts.paused)))
    pub needs_none : IfOk result (λ p. p ≢ Progress.NeedsLink)
    pub due : IfErr result (IsDueErrorOn (cause before.setting) after.seen new.outbox)

  -- nothing was done, since a fault is to be recorded first
  abbrev pub RestsSending : HostState → HostState → Result Progress EngineError → Type 0
  RestsSending old new result = (new ≡ old) × (result ≡ Ok Progress.Idle)
      × (own_history after ≡ own_history before)

-- One part was taken, or none: there is no link, and no fault was recorded. Where none was, the outbox is as it was; and if nothing
-- was pending no part waited.
pub record TakesOne (cause : Refusal → Event → List Step → Type 0) (seen : List Step) (old new : HostState)
    (result : Result Bool EngineError) : Type 0 where
  pub link : new.link ≡ None
  pub fault : new.fault ≡ old.fault
  pub nothing_waits : IfOk result (λ b. b ≡ false → old.outbox.pending ≡ []
      → cause Refusal.NothingWaiting (Event.Taken old.outbox.host) seen)
  pub same : IfOk result (λ b. b ≡ false → new.outbox ≡ old.outbox)

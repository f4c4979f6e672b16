-- What the parts of a step on a link come to.
use Rattle.std.specs.Prelude.{◌≡◌, ◌≢◌, ◌⊎◌, ℕ, false, None, Some, Result, IfOk, IfErr, OnErr}
use Rattle.proxy_devices.specs.Device.{HasRisen, WasIdle}
use Rattle.proxy_engines.specs.Ends.{HasGivenAll, KeepsReader}
use Rattle.proxy_engines.specs.Host.{HostOutboxState, LinkState}
use Rattle.proxy_engines.specs.Faults.{HasNoFaultOn, HasRead, IfFault, IsCauseOf, IsLate, IsLateOn, IsOfDevice, LinkMove, is_fault}
use Rattle.engine_work.specs.declared.error.EngineError.{EngineError}
use Rattle.proxy_engines.specs.declared.link.NextValue.{NextValue}
use Rattle.proxy_engines.specs.declared.link.NextValue.TheVariants as found
use Rattle.resp_core.specs.declared.value.Value.{Value}
use Rattle.proxy_engines.specs.declared.link.Outcome.{Outcome}

-- the link with the value that was found as the one that waits for its turn
abbrev pub with_found : LinkState → NextValue → LinkState
with_found link (found.Value v) = record link { next = Some v }
with_found link found.Idle = link
with_found link found.Garbled = link

-- A value was found and no other waits, a byte is refused, or all values that came were given.
pub record FindsNext (link : LinkState) (found : NextValue) : Type 0 where
  pub idle : found ≡ NextValue.Idle → (link.next ≡ None) × HasGivenAll link.inbox
  pub value : (v : Value) → found ≡ NextValue.Value v → (link.next ≡ None) × (link.inbox.values.refusal ≡ None)
  pub garbled : found ≡ NextValue.Garbled → link.inbox.values.refusal ≢ None

-- The next value was looked for: what was found is told, or there was no memory, and nothing is refused. Both devices are as they
-- were.
pub record LooksForValue (move : LinkMove) (result : Result NextValue EngineError) : Type 0 where
  pub found : IfOk result (FindsNext move.new)
  pub err : IfErr result (λ e. (e ≡ EngineError.NoMemory) × (move.new.inbox.values.refusal ≡ None))
  pub counts : KeepsReader move.old.inbox move.new.inbox × (move.new.counts ≡ move.old.counts)

-- After the turn of the next value, if there is one: all values that came were answered, or no byte is refused, as was told.
pub record TellsNext (link : LinkState) (outcome : Outcome) : Type 0 where
  pub idle : outcome ≡ Outcome.Idle → (link.next ≡ None) × HasGivenAll link.inbox
  pub moved : outcome ≡ Outcome.Moved → link.inbox.values.refusal ≡ None

-- a read was made, and all values that came were answered
pub record HasReadAll (old new : LinkState) : Type 0 where
  pub all : (new.next ≡ None) × HasGivenAll new.inbox
  pub reads : HasRead old.inbox new.inbox

-- all values that came were answered, no device has failed, and no reply is late
pub record IsCalmOn (old new : LinkState) (outbox : HostOutboxState) (moment : ℕ) : Type 0 where
  pub all : (new.next ≡ None) × HasGivenAll new.inbox
  pub unfailed : HasNoFaultOn old new
  pub in_time : ¬ IsLate outbox moment

-- One write on a link, by its outcome: the reader and what waits are as they were. It is idle where the writer paused, and a
-- fault where the writer failed.
pub record WritesOnLink (move : LinkMove) (outcome : Outcome) : Type 0 where
  pub keeps : (move.new.inbox ≡ move.old.inbox) × (move.new.next ≡ move.old.next)
  pub idle : outcome ≡ Outcome.Idle → WasIdle move.old.counts move.new.counts
  pub writer : is_fault outcome ≡ false → move.new.counts.failed ≡ move.old.counts.failed
  pub fault : IfFault outcome (IsOfDevice move)

-- One read on a link, by its outcome: nothing is refused, and the writer is as it was. It is idle where the reader paused, and a
-- fault at the end of the input or where the reader failed.
pub record ReadsOnLink (move : LinkMove) (outcome : Outcome) : Type 0 where
  pub keeps : (move.new.inbox.values.refusal ≡ None) × (move.new.counts ≡ move.old.counts)
  pub idle : outcome ≡ Outcome.Idle → WasIdle move.old.inbox.counts move.new.inbox.counts
  pub reads : is_fault outcome ≡ false → HasRead move.old.inbox move.new.inbox
  pub fault : IfFault outcome (IsOfDevice move)

-- The turn of a waiting value: both devices are as they were, and it is never idle. A fault has its cause.
pub record AnswersValue (unasked : Type 0) (move : LinkMove) (result : Result Outcome EngineError) : Type 0 where
  pub keeps : (move.new.inbox ≡ move.old.inbox) × (move.new.counts ≡ move.old.counts)
  pub moved : IfOk result (λ outcome. outcome ≢ Outcome.Idle)
  pub fault : IfOk result (λ outcome. IfFault outcome (IsCauseOf unasked ⊥ move))

-- The turn of the next value, if there is one: both devices are as they were. A fault has its cause, and behind an error nothing is
-- refused.
pub record AnswersNext (unasked : Type 0) (move : LinkMove) (result : Result Outcome EngineError) : Type 0 where
  pub told : IfOk result (TellsNext move.new)
  pub fault : IfOk result (λ outcome. IfFault outcome (IsCauseOf unasked ⊥ move))
  pub keeps : KeepsReader move.old.inbox move.new.inbox × (move.new.counts ≡ move.old.counts)
  pub err : OnErr result (move.new.inbox.values.refusal ≡ None)

-- The turns of all values that came, up to a fault: both devices are as they were. A fault has its cause, and behind an error
-- nothing is refused.
pub record AnswersAll (unasked : Type 0) (move : LinkMove) (result : Result Outcome EngineError) : Type 0 where
  pub all : IfOk result (λ outcome. is_fault outcome ≡ false → (move.new.next ≡ None) × HasGivenAll move.new.inbox)
  pub fault : IfOk result (λ outcome. IfFault outcome (IsCauseOf unasked ⊥ move))
  pub keeps : KeepsReader move.old.inbox move.new.inbox × (move.new.counts ≡ move.old.counts)
  pub err : OnErr result (move.new.inbox.values.refusal ≡ None)

-- One write, or one part taken: the reader and what waits are as they were. It is idle where the writer paused, or where no part
-- waited, as `none_waited` says; and a fault where the writer failed.
pub record SendsOnLink (none_waited : Type 0) (move : LinkMove) (result : Result Outcome EngineError) : Type 0 where
  pub keeps : (move.new.inbox ≡ move.old.inbox) × (move.new.next ≡ move.old.next)
  pub idle : IfOk result (λ outcome. outcome ≡ Outcome.Idle → HasRisen move.old.counts.paused move.new.counts.paused ⊎ none_waited)
  pub writer : IfOk result (λ outcome. is_fault outcome ≡ false → move.new.counts.failed ≡ move.old.counts.failed)
  pub fault : IfOk result (λ outcome. IfFault outcome (IsOfDevice move))

-- The turns of all values that came, one read, and the turns of those that it brought. The writer is as it was. It is idle where
-- the reader paused; a fault has its cause, and behind an error nothing is refused.
pub record Receives (unasked : Type 0) (move : LinkMove) (result : Result Outcome EngineError) : Type 0 where
  pub idle : IfOk result (λ outcome. outcome ≡ Outcome.Idle → HasRisen move.old.inbox.counts.paused move.new.inbox.counts.paused)
  pub calm : IfOk result (λ outcome. is_fault outcome ≡ false → HasReadAll move.old move.new)
  pub fault : IfOk result (λ outcome. IfFault outcome (IsCauseOf unasked ⊥ move))
  pub writes : move.new.counts ≡ move.old.counts
  pub err : OnErr result (move.new.inbox.values.refusal ≡ None)

-- The same, and last a late reply is a fault, with this outbox behind it.
pub record ReceivesInTime (unasked : Type 0) (outbox : HostOutboxState) (move : LinkMove) (moment : ℕ)
    (result : Result Outcome EngineError) : Type 0 where
  pub idle : IfOk result (λ outcome. outcome ≡ Outcome.Idle → HasRisen move.old.inbox.counts.paused move.new.inbox.counts.paused)
  pub calm : IfOk result (λ outcome. is_fault outcome ≡ false → IsCalmOn move.old move.new outbox moment)
  pub fault : IfOk result (λ outcome. IfFault outcome (IsCauseOf unasked (IsLateOn outbox move moment) move))
  pub writes : move.new.counts ≡ move.old.counts
  pub err : OnErr result (move.new.inbox.values.refusal ≡ None)

-- One step on a link, with this outbox behind it. It is idle where the reader paused, and the writer did or no part waited, as
-- `none_waited` says; a fault has its cause, and behind an error nothing is refused.
pub record WorksOnLink (unasked none_waited : Type 0) (outbox : HostOutboxState) (move : LinkMove) (moment : ℕ)
    (result : Result Outcome EngineError) : Type 0 where
  pub idle : IfOk result (λ outcome. outcome ≡ Outcome.Idle → HasRisen move.old.inbox.counts.paused move.new.inbox.counts.paused
      × (HasRisen move.old.counts.paused move.new.counts.paused ⊎ none_waited))
  pub calm : IfOk result (λ outcome. is_fault outcome ≡ false → IsCalmOn move.old move.new outbox moment)
  pub fault : IfOk result (λ outcome. IfFault outcome (IsCauseOf unasked (IsLateOn outbox move moment) move))
  pub err : OnErr result (move.new.inbox.values.refusal ≡ None)

-- What the functions of a client's engine come to that make turns.
use Rattle.std.specs.Prelude.{◌≡◌, ◌≢◌, ◌⊎◌, ℕ, Bool, false, true, Option, None, Some, List, [], ◌∷◌, Result, IfOk, IfErr, OnOk}
use Rattle.splitter.specs.declared.request.Request.{Request}
use Rattle.proxy_history.specs.History.{History, Step}
use Rattle.proxy_history.specs.OwnSteps.{connection_steps}
use Rattle.proxy_history.specs.declared.answer.Answer.{Answer}
use Rattle.proxy_history.specs.declared.event.Event.{Event}
use Rattle.proxy_history.specs.declared.refusal.Refusal.{Refusal}
use Rattle.journal_core.specs.Journal.{step_by}
use Rattle.proxy_devices.specs.Device.{HasFailed, ReadState, WasIdle, WriteState}
use Rattle.proxy_engines.specs.Turns.{CoreTurnFacts, KeepsTurns, own_history}
use Rattle.proxy_engines.specs.OneTurn.{IsDueError}
use Rattle.proxy_engines.specs.Moves.{AsTold}
use Rattle.proxy_engines.specs.Ends.{HasGivenAll, KeepsReader}
use Rattle.proxy_engines.specs.Client.{AwaitsBytes, AwaitsReplies, Client, Goes, HandsNothing, HasNext, HasNoFault, HasSameCounts, IsHeldBack, IsIdle, IsLive, TakesNothing}
use Rattle.proxy_engines.specs.declared.client.Progress.{Progress}
use Rattle.proxy_engines.specs.declared.client.Stage.{Stage}
use Rattle.close_behind.specs.CloseBehind.{Behind}
use Rattle.engine_work.specs.EngineError.{IsTurnRefused}
use Rattle.engine_work.specs.declared.error.EngineError.{EngineError}

-- Some turns were made, or none, from `before` to `after`: the engine made moves, whether any as was told; where it answers
-- neither device has failed, and where a turn was refused the error tells why.
pub record MovesClient {Home Setting Answered : Type 0} (cause : Setting → Refusal → Event → List Step → Type 0)
    (before after : CoreTurnFacts Home Setting) (old new : Client) (told : Option Bool) (result : Result Answered EngineError)
    : Type 0 where
  pub turns : KeepsTurns before after
  pub goes : AsTold (Goes old new (own_history before) (own_history after)) told
  pub unfailed : OnOk result (HasNoFault old new)
  pub due : IfErr result (IsDueError (cause before.setting) after.seen)

-- The engine is as it was, and the request that waits is held back: too many commands are unwritten.
pub record StaysHeld (cause : Refusal → Event → List Step → Type 0) (seen : List Step) (old new : Client) : Type 0 where
  pub same : new ≡ old
  pub request : Request
  pub waits : old.next ≡ Some request
  pub crowded : cause Refusal.Crowded (Event.Arrived old.conn request) seen

-- One reply was handed out, or the next one hasn't come, or the turn was refused and the engine is as it was.
pub record HandsOne (cause : Refusal → Event → List Step → Type 0) (seen : List Step) (old new : Client)
    (result : Result Bool EngineError) : Type 0 where
  pub stage : new.stage ≡ old.stage
  pub not_ready : IfOk result (λ b. b ≡ false → (new ≡ old) × ((left : ℕ) × cause (Refusal.NotReady left) (Event.Handed old.conn) seen))
  pub err : IfErr result (λ e. (new ≡ old) × IsTurnRefused e)

-- A reply that was due was handed out, or nothing can be handed out, or the turn was refused and the engine is as it was.
pub record HandsDue (cause : Refusal → Event → List Step → Type 0) (seen_before seen_after : List Step) (old new : Client)
    (result : Result Bool EngineError) : Type 0 where
  pub stage : new.stage ≡ old.stage
  pub nothing : IfOk result (λ b. b ≡ false → (new ≡ old) × HandsNothing cause old seen_before seen_after)
  pub err : IfErr result (λ e. (new ≡ old) × IsTurnRefused e)

-- The request that waits was accepted, or it is held back, or the turn was refused and the engine is as it was.
pub record OffersOne (cause : Refusal → Event → List Step → Type 0) (seen : List Step) (old new : Client)
    (result : Result Progress EngineError) : Type 0 where
  pub live : IsLive new.stage
  pub ends : (new.inbox ≡ old.inbox) × (new.outbox ≡ old.outbox)
  pub ok : IfOk result (λ p. (p ≡ Progress.Moved) ⊎ ((p ≡ Progress.Idle) × StaysHeld cause seen old new))
  pub err : IfErr result (λ e. (new ≡ old) × IsTurnRefused e)

-- The next request was fetched, if one has come whole; or there was no memory. Requests are still taken, and the devices are as
-- they were.
pub record FetchesNext (old new : Client) (result : Result Bool EngineError) : Type 0 where
  pub keeps : (new.is_drained ≡ false) × (new.stage ≡ Stage.Open) × HasSameCounts old new
  pub ends : KeepsReader old.inbox new.inbox × (new.outbox ≡ old.outbox)
  pub next : IfOk result (HasNext new)
  pub err : IfErr result (λ e. e ≡ EngineError.NoMemory)

-- Whether a request waits is told, or there was no memory. Requests are still taken, and the devices are as they were.
pub record LooksForNext (old new : Client) (result : Result Bool EngineError) : Type 0 where
  pub keeps : (new.stage ≡ Stage.Open) × HasSameCounts old new
  pub ends : KeepsReader old.inbox new.inbox × (new.outbox ≡ old.outbox)
  pub last : new.is_drained ≡ true → new.next ≡ Some Request.Broken
  pub next : IfOk result (HasNext new)
  pub err : IfErr result (λ e. e ≡ EngineError.NoMemory)

-- One write: the writer took bytes, or it paused; or it failed in this call, and the connection was closed or is to be.
pub record WritesClient (old new : Client) (result : Result Progress EngineError) : Type 0 where
  pub ok : IfOk result (λ p. (new.stage ≡ old.stage)
      × ((p ≡ Progress.Moved) ⊎ ((p ≡ Progress.Idle) × WasIdle old.outbox.counts new.outbox.counts)))
  pub err : IfErr result (λ e. ((e ≡ EngineError.WriteFailed) × HasFailed old.outbox.counts new.outbox.counts
      × (new.stage ≡ Stage.Closed true)) ⊎ IsTurnRefused e)

-- One read: bytes came, or the end of the input, or nothing for now; or the reader failed in this call, and the connection was
-- closed or is to be.
pub record ReadsClient (old new : Client) (result : Result Progress EngineError) : Type 0 where
  pub ok : IfOk result (λ p. IsLive new.stage × ((p ≡ Progress.Moved) ⊎ ((p ≡ Progress.Idle) × AwaitsBytes old new)))
  pub err : IfErr result (λ e. ((e ≡ EngineError.ReadFailed) × HasFailed old.inbox.counts new.inbox.counts
      × (new.stage ≡ Stage.Closed true)) ⊎ IsTurnRefused e)

-- Reading stopped, and the connection finishes; or the turn was refused.
pub record StopsReading (new : Client) (result : Result Progress EngineError) : Type 0 where
  pub ok : IfOk result (λ p. IsLive new.stage × (p ≡ Progress.Moved))
  pub err : IfErr result IsTurnRefused

-- A request was accepted, or bytes were read, or it is told why neither was done. Or there was no memory, or the reader failed in
-- this call and the connection was closed or is to be, or a turn was refused.
pub record TakesIn (cause : Refusal → Event → List Step → Type 0) (seen_before seen_after : List Step) (old new : Client)
    (result : Result Progress EngineError) : Type 0 where
  pub ok : IfOk result (λ p. IsLive new.stage × ((p ≡ Progress.Moved) ⊎ (p ≡ Progress.Idle)))
  pub err : IfErr result (λ e. (e ≡ EngineError.NoMemory)
      ⊎ ((e ≡ EngineError.ReadFailed) × HasFailed old.inbox.counts new.inbox.counts × (new.stage ≡ Stage.Closed true))
      ⊎ IsTurnRefused e)
  pub idle : IfOk result (λ p. p ≡ Progress.Idle → IsHeldBack cause new seen_before seen_after ⊎ AwaitsBytes old new)

-- A request was accepted, or it is told why none was: the engine takes in nothing more, the request is held back, or none has come
-- whole. Or there was no memory, or the turn was refused. Nothing was read, handed out or written.
pub record AcceptsOne (cause : Refusal → Event → List Step → Type 0) (seen_before seen_after : List Step) (old new : Client)
    (result : Result Progress EngineError) : Type 0 where
  pub ends : KeepsReader old.inbox new.inbox × (new.outbox ≡ old.outbox)
  pub ok : IfOk result (λ p. (p ≡ Progress.Moved) ⊎ (p ≡ Progress.Idle))
  pub err : IfErr result (λ e. (e ≡ EngineError.NoMemory) ⊎ IsTurnRefused e)
  pub idle : IfOk result (λ p. p ≡ Progress.Idle → TakesNothing new
      ⊎ (IsHeldBack cause new seen_before seen_after ⊎ ((new.next ≡ None) × HasGivenAll new.inbox)))

-- The connection was closed at its end, or it awaits replies, or the turn was refused.
pub record EndsOnce (new : Client) (result : Result Progress EngineError) : Type 0 where
  pub ok : IfOk result (λ p. (p ≡ Progress.Idle) ⊎ ((p ≡ Progress.Ended) × (new.stage ≡ Stage.Closed false)))
  pub err : IfErr result IsTurnRefused
  pub idle : IfOk result (λ p. p ≡ Progress.Idle → AwaitsReplies new)

-- What a step's answer tells: `Ended` that the connection was closed at its end, and `Idle` why nothing moved; and where a
-- device failed, it has failed in this step, and the connection was closed for it. No step needs a link.
pub record TellsStep (cause : Refusal → Event → List Step → Type 0) (seen_before seen_after : List Step) (old new : Client)
    (result : Result Progress EngineError) : Type 0 where
  pub ended : IfOk result (λ p. p ≡ Progress.Ended → new.stage ≡ Stage.Closed false)
  pub no_link : IfOk result (λ p. p ≢ Progress.NeedsLink)
  pub read_failed : IfErr result (λ e. e ≡ EngineError.ReadFailed
      → HasFailed old.inbox.counts new.inbox.counts × (new.stage ≡ Stage.Closed true))
  pub write_failed : IfErr result (λ e. e ≡ EngineError.WriteFailed
      → HasFailed old.outbox.counts new.outbox.counts × (new.stage ≡ Stage.Closed true))
  pub idle : IfOk result (λ p. p ≡ Progress.Idle → IsIdle cause old new seen_before seen_after)

-- A connection was opened, by one turn of this pass, over a reader and a writer in these states. No step was made of it before;
-- requests are taken, the engine is not drained, and it closes the connection behind these refused commands.
pub record OpensClient (pass : ℕ) (before after : History) (reader : ReadState) (writer : WriteState) (behind : Behind) (new : Client) : Type 0 where
  pub opened : after ≡ step_by pass Event.Opened (Answer.Opened new.conn) ∷ before
  pub fresh : connection_steps new.conn before ≡ []
  pub left_is : new.inbox.left ≡ reader.remaining
  pub told_is : new.inbox.told ≡ reader.told
  pub held_is : new.outbox.held ≡ writer.contents
  pub taken_is : new.outbox.taken ≡ writer.taken
  pub passed_is : new.outbox.passed ≡ writer.passed
  pub counts_are : (new.inbox.counts ≡ reader.counts) × (new.outbox.counts ≡ writer.counts)
  pub stage : new.stage ≡ Stage.Open
  pub reads : new.is_drained ≡ false
  pub behind_is : new.behind ≡ behind

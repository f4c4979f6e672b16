-- What the stage of a client tells: why its engine isn't stepped any more, and that what its writer took has gone out.
use Rattle.std.specs.Prelude.{◌≡◌, ◌≢◌, ◌⊎◌, ⊤, Bool, true, false, Option, Some, None, Result, Ok, Err, IfOk, IfErr}
use Rattle.proxy_history.specs.declared.refusal.Refusal.{Refusal}
use Rattle.engine_work.specs.declared.error.Denied.{Denied}
use Rattle.engine_work.specs.declared.error.EngineError.{EngineError}
use Rattle.proxy_engines.specs.Client.{Client, MayGoOn}
use Rattle.proxy_engines.specs.Ends.{OutboxState}
use Rattle.proxy_engines.specs.declared.client.Progress.{Progress}
use Rattle.proxy_engines.specs.declared.client.Stage.{Stage}
use Rattle.proxy_connections.specs.declared.stage.EngineEnd.{EngineEnd}
use Rattle.proxy_connections.specs.declared.stage.SocketStage.{SocketStage}
use Rattle.proxy_connections.specs.declared.step_error.StepError.{StepError}

-- whether a connection is closed, at its end or for a fault
abbrev pub is_closed_stage : Stage → Bool
is_closed_stage (Stage.Closed is_cut) = true
is_closed_stage stage = false

-- why the engine isn't stepped any more, where it isn't
abbrev pub end_of : SocketStage → Option EngineEnd
end_of SocketStage.Served = None
end_of (SocketStage.Leaving end) = Some end
end_of (SocketStage.Lingering end until) = Some end

-- whether the socket's sending half is closed
abbrev pub is_lingering : SocketStage → Bool
is_lingering (SocketStage.Lingering end until) = true
is_lingering stage = false

-- what stays true of an engine that isn't stepped any more: its connection is closed, where that is why; and it takes in nothing
-- more, where it lacked room
abbrev pub IsOver : EngineEnd → Client → Type 0
IsOver end engine = (end ≡ EngineEnd.Closed → is_closed_stage engine.stage ≡ true) × (end ≡ EngineEnd.NoRoom → engine.is_drained ≡ true)

-- where the engine isn't stepped any more, it is over, for the stage's reason
abbrev pub IsOverAt : SocketStage → Client → Type 0
IsOverAt stage engine = (end : EngineEnd) → end_of stage ≡ Some end → IsOver end engine

-- all that the writer took has passed to the system, unless a write failed
abbrev pub HasPassedAll : OutboxState → Type 0
HasPassedAll outbox = outbox.passed.has_failed ≡ false → outbox.passed.bytes ≡ outbox.taken

-- where the sending half is closed, all that the writer took has passed before
abbrev pub HasGoneOut : SocketStage → Client → Type 0
HasGoneOut stage engine = is_lingering stage ≡ true → HasPassedAll engine.outbox

-- its socket may go over: its connection is closed and can go on in another, and no write has failed
abbrev pub MayGoOver : Client → Type 0
MayGoOver engine = MayGoOn engine × (engine.outbox.passed.has_failed ≡ false)

-- an engine is as it was, but for what its writer has passed on
abbrev pub PassesOn : Client → Client → Type 0
PassesOn old new = new ≡ record old { outbox = record old.outbox { passed = new.outbox.passed } }

-- a turn was refused that has no meaning any more: neither memory, nor room in the journal, nor a ticket lacked
abbrev pub IsMeaningless : Denied → Type 0
IsMeaningless Denied.Spent = ⊥
IsMeaningless (Denied.By refusal) = (refusal ≢ Refusal.NoMemory) × (refusal ≢ Refusal.JournalFull)
IsMeaningless Denied.Astray = ⊤

-- an error ends one connection alone: a device failed, or the turn has no meaning
abbrev pub EndsOne : EngineError → Type 0
EndsOne EngineError.NoMemory = ⊥
EndsOne (EngineError.TurnRefused denied) = IsMeaningless denied
EndsOne error = ⊤

-- what is told of an engine's error: that the journal has no room, or that one connection ends alone, only where it is so
pub record TellsError (error : EngineError) (told : StepError) : Type 0 where
  pub full : told ≡ StepError.Full → error ≡ EngineError.TurnRefused (Denied.By Refusal.JournalFull)
  pub one : told ≡ StepError.EndsOne → EndsOne error

-- the end of an engine that a step's answer tells
abbrev pub TellsEnd : Result Progress EngineError → EngineEnd → Type 0
TellsEnd result EngineEnd.Closed = (result ≡ Ok Progress.Ended) ⊎ (result ≡ Ok Progress.Cut)
    ⊎ (result ≡ Err EngineError.ReadFailed) ⊎ (result ≡ Err EngineError.WriteFailed)
TellsEnd result EngineEnd.NoRoom = result ≡ Err (EngineError.TurnRefused (Denied.By Refusal.JournalFull))
TellsEnd result EngineEnd.Refused = (denied : Denied) × (result ≡ Err (EngineError.TurnRefused denied)) × IsMeaningless denied

-- a step tells that its connection ended, was cut, or has a device that failed only where it is closed
pub record TellsClosed (engine : Client) (result : Result Progress EngineError) : Type 0 where
  pub ended : IfOk result (λ p. (p ≡ Progress.Ended) ⊎ (p ≡ Progress.Cut) → is_closed_stage engine.stage ≡ true)
  pub failed : IfErr result (λ e. (e ≡ EngineError.ReadFailed) ⊎ (e ≡ EngineError.WriteFailed) → is_closed_stage engine.stage ≡ true)

-- An engine comes to its end, where these errors are due: its connection is closed; or its turn was refused for want of room in
-- the journal, and it takes in nothing more; or its turn was refused, since it has no meaning any more.
abbrev pub ComesTo : (EngineError → Type 0) → Client → EngineEnd → Type 0
ComesTo due engine EngineEnd.Closed = is_closed_stage engine.stage ≡ true
ComesTo due engine EngineEnd.NoRoom = (engine.is_drained ≡ true) × due (EngineError.TurnRefused (Denied.By Refusal.JournalFull))
ComesTo due engine EngineEnd.Refused = (denied : Denied) × IsMeaningless denied × due (EngineError.TurnRefused denied)

-- How a run ends where an engine's call is refused.
use Rattle.proxy_history.specs.declared.refusal.Refusal.{Refusal}
use Rattle.engine_work.specs.declared.error.Denied.{Denied}
use Rattle.engine_work.specs.declared.error.EngineError.{EngineError}
use Rattle.proxy_exit_status.specs.declared.ending.Ending.{Ending}

-- how it ends where the core refuses a turn
abbrev pub ending_of_refusal : Refusal → Ending
ending_of_refusal Refusal.NoMemory = Ending.Memory
ending_of_refusal Refusal.JournalFull = Ending.JournalFull
ending_of_refusal Refusal.NoSuchConnection = Ending.Socket
ending_of_refusal Refusal.Crowded = Ending.Socket
ending_of_refusal Refusal.NothingWaiting = Ending.Socket
ending_of_refusal (Refusal.Stale current) = Ending.Socket
ending_of_refusal Refusal.Unasked = Ending.Socket
ending_of_refusal (Refusal.NotReady left) = Ending.Socket
ending_of_refusal Refusal.Finishing = Ending.Socket
ending_of_refusal Refusal.TooManyConnections = Ending.Socket
ending_of_refusal (Refusal.BadSettings field) = Ending.Socket
ending_of_refusal Refusal.NoSuchHost = Ending.Socket
ending_of_refusal Refusal.NotPlain = Ending.Socket

-- how it ends where an engine's call is refused
abbrev pub ending_of : EngineError → Ending
ending_of EngineError.NoMemory = Ending.Memory
ending_of EngineError.ReadFailed = Ending.Socket
ending_of EngineError.WriteFailed = Ending.Socket
ending_of (EngineError.TurnRefused Denied.Spent) = Ending.Spent
ending_of (EngineError.TurnRefused (Denied.By refusal)) = ending_of_refusal refusal
ending_of (EngineError.TurnRefused Denied.Astray) = Ending.Socket

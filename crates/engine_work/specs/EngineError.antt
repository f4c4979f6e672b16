-- The numbers of an engine's refusals.
use Rattle.std.specs.Prelude.{◌≡◌, ℕ}
use Rattle.proxy_history.specs.Refusal.{number_of as refusal_number}
use Rattle.engine_work.specs.declared.error.Denied.{Denied}
use Rattle.engine_work.specs.declared.error.EngineError.{EngineError}

-- its number
abbrev pub number_of : EngineError → ℕ
number_of EngineError.NoMemory = 1401
number_of EngineError.ReadFailed = 1402
number_of EngineError.WriteFailed = 1403
number_of (EngineError.TurnRefused denied) = 1404

-- the number by which a turn was refused: that of the core's refusal; 1202 where no ticket is left; and where another caller
-- failed the host, that of an epoch that is over
abbrev pub denied_number : Denied → ℕ
denied_number Denied.Spent = 1202
denied_number (Denied.By r) = refusal_number r
denied_number Denied.Astray = 1006

-- a turn was refused
abbrev pub IsTurnRefused : EngineError → Type 0
IsTurnRefused e = (denied : Denied) × (e ≡ EngineError.TurnRefused denied)

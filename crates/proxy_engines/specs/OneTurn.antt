-- What one turn does to the steps of its caller.
use Rattle.std.specs.Prelude.{◌≡◌, ◌≤◌, ⊤, ℕ, Bool, true, false, if◌then◌else◌, List, ◌∷◌, length, Result, Ok, Err}
use Rattle.journal_core.specs.Journal.{step_by}
use Rattle.ticket_gate.specs.Journal.{StartsWith}
use Rattle.proxy_history.specs.Setting.{max_steps}
use Rattle.proxy_history.specs.History.{History, Step}
use Rattle.proxy_history.specs.StepLaws.{IsAnswerTo}
use Rattle.proxy_history.specs.declared.answer.Answer.{Answer}
use Rattle.proxy_history.specs.declared.event.Event.{Event}
use Rattle.proxy_history.specs.declared.refusal.Refusal.{Refusal}
use Rattle.engine_work.specs.declared.error.Denied.{Denied}
use Rattle.engine_work.specs.declared.error.EngineError.{EngineError}

-- The caller made one step more, with an answer of the event's kind.
pub record Adds (pass : ℕ) (old new : History) (event : Event) (answer : Answer) : Type 0 where
  pub steps : new ≡ step_by pass event answer ∷ old
  pub fits : IsAnswerTo event answer
  pub few : length new ≤ max_steps

-- where the state refused the turn, the refusal's cause holds of what is seen; a turn that is made tells of no astray host
abbrev pub IsDue : (Refusal → Event → List Step → Type 0) → Event → List Step → Denied → Type 0
IsDue cause event seen Denied.Spent = ⊤
IsDue cause event seen (Denied.By r) = cause r event seen
IsDue cause event seen Denied.Astray = ⊥

-- The turn was refused: the caller made no step more, and the cause of its refusal holds of what is seen.
pub record IsDenied (cause : Refusal → Event → List Step → Type 0) (event : Event) (old new : History) (seen : List Step) (denied : Denied) : Type 0 where
  pub rests : new ≡ old
  pub due : IsDue cause event seen denied

-- the cause of a refusal held, of some list of steps between these
abbrev pub HasHeld : (Event → List Step → Type 0) → Event → List Step → List Step → Type 0
HasHeld cause event old new =
    (between : List Step) × StartsWith between old × StartsWith new between × cause event between

-- whether a refusal is an error: each is, but that the next reply hasn't come, that a command is held back, that no part waits,
-- and that a host has spoken unasked
abbrev pub is_error : Refusal → Bool
is_error Refusal.Crowded = false
is_error Refusal.NothingWaiting = false
is_error Refusal.Unasked = false
is_error (Refusal.NotReady left) = false
is_error refusal = true

-- what is told of a turn that was not made: its error, or this answer where it is none
abbrev pub told_as : {A : Type 0} → Denied → A → Result A EngineError
told_as (Denied.By r) answer = if is_error r then Err (EngineError.TurnRefused (Denied.By r)) else Ok answer
told_as denied answer = Err (EngineError.TurnRefused denied)

-- where the error tells of a turn, no ticket is left; or the state refused it, which is an error, and the refusal's cause holds
-- of some event and of what is seen
abbrev pub IsDueError : (Refusal → Event → List Step → Type 0) → List Step → EngineError → Type 0
IsDueError cause seen (EngineError.TurnRefused Denied.Spent) = ⊤
IsDueError cause seen (EngineError.TurnRefused (Denied.By r)) = (is_error r ≡ true) × ((event : Event) × cause r event seen)
IsDueError cause seen (EngineError.TurnRefused Denied.Astray) = ⊥
IsDueError cause seen error = ⊤

-- Whether an engine got on, and how its answer tells it.
use Rattle.std.specs.Prelude.{◌≡◌, Bool, true, false, ℕ, List, [], ◌∷◌, ◌++◌, Option, Some, None, unwrap_or, Result, Ok, Err}
use Rattle.proxy_history.specs.History.{History}
use Rattle.proxy_history.specs.declared.answer.Answer.{Answer}
use Rattle.proxy_history.specs.declared.event.Event.{Event}
use Rattle.proxy_engines.specs.declared.client.Progress.{Progress}
use Rattle.engine_work.specs.declared.error.EngineError.{EngineError}

-- whether bytes were read, bytes were taken or steps were made
abbrev pub has_moved : List ℕ → List ℕ → History → Bool
has_moved [] [] [] = false
has_moved got gave steps = true

-- moves of which it is told whether anything moved, or of which it isn't
abbrev pub AsTold : (Bool → Type 0) → Option Bool → Type 0
AsTold Goes (Some moved) = Goes moved
AsTold Goes None = (moved : Bool) × Goes moved

-- what a step's answer tells of it: that something moved, or that nothing did
abbrev pub told_by_step : Result Progress EngineError → Option Bool
told_by_step (Ok Progress.Moved) = Some true
told_by_step (Ok Progress.Idle) = Some false
told_by_step result = None

-- what a turn tells that may be refused for now
abbrev pub told_by_turn : Result Bool EngineError → Option Bool
told_by_turn (Ok is_answered) = Some is_answered
told_by_turn (Err e) = None

-- the text that a step hands out to a connection
abbrev pub text_handed : Event → Answer → Option (List ℕ)
text_handed (Event.Handed conn) (Answer.Bytes text) = Some text
text_handed event answer = None

-- the text that a step sends to a host
abbrev pub text_sent : Event → Answer → Option (List ℕ)
text_sent (Event.Taken host) (Answer.Sent epoch place text) = Some text
text_sent event answer = None

-- the last text of these steps, the newest first, or the one before them
abbrev pub last_text : (Event → Answer → Option (List ℕ)) → List ℕ → History → List ℕ
last_text text_of before [] = before
last_text text_of before (s ∷ earlier) = unwrap_or (text_of s.event s.answer) (last_text text_of before earlier)

-- these bytes are an end of the text: others of it, in front of them, are gone
abbrev pub IsEndOf : List ℕ → List ℕ → Type 0
IsEndOf bytes text = (gone : List ℕ) × (text ≡ gone ++ bytes)

-- What holds of each step of a legal history by itself.
use Rattle.std.specs.Prelude.{◌≡◌, ◌≤◌, ⊤, ℕ, Bool, true, false, [], ◌∷◌, Option, Some}
use Rattle.splitter.specs.Plan.{is_last}
use Rattle.splitter.specs.declared.plans.Local.{Local}
use Rattle.splitter.specs.declared.plans.Local.TheVariants as locals
use Rattle.proxy_history.specs.Setting.{Setting}
use Rattle.proxy_history.specs.History.{History, Step, plan_for, openings, epoch}
use Rattle.proxy_history.specs.Legal.{IsLegal}
use Rattle.proxy_history.specs.OwnSteps.{connection_steps}
use Rattle.proxy_history.specs.declared.event.Event.{Event}
use Rattle.proxy_history.specs.declared.event.Event.TheVariants.{Opened, Arrived, Finished, Taken, Answered, Failed, Swept, Handed, Closed}
use Rattle.proxy_history.specs.declared.answer.Answer.{Answer}
use Rattle.proxy_history.specs.declared.answer.Answer.TheVariants as answer

-- whether an answer of the proxy's own finishes its connection
abbrev pub is_last_answer : Option Local → Bool
is_last_answer (Some locals.Bye) = true
is_last_answer (Some locals.Broken) = true
is_last_answer _ = false

-- The answer is one for this event. Of a request it tells by the proxy's own answer whether the connection finishes.
abbrev pub IsAnswerTo : Event → Answer → Type 0
IsAnswerTo Opened (answer.Opened conn) = ⊤
IsAnswerTo (Arrived conn request) (answer.Accepted index local parts no_host busy) =
    is_last_answer local ≡ is_last (plan_for request)
IsAnswerTo (Finished conn) answer.Finishing = ⊤
IsAnswerTo (Taken host) (answer.Sent epoch place t) = ⊤
IsAnswerTo (Answered host epoch value t) (answer.Matched trip) = ⊤
IsAnswerTo (Failed host epoch kind t) (answer.Lost parts trip) = ⊤
IsAnswerTo (Swept t) (answer.Swept returned ejected kept) = ⊤
IsAnswerTo (Handed conn) (answer.Bytes t) = ⊤
IsAnswerTo (Closed conn) answer.Closed = ⊤
IsAnswerTo _ _ = ⊥

-- each event has an answer of its kind
abbrev pub AnswersFit : Type 0
AnswersFit = (S : Setting) (before : History) (s : Step)
    → IsLegal S (s ∷ before) → IsAnswerTo s.event s.answer

-- The step names the epoch that its host has then, which is the number of the host's faults before.
abbrev pub IsOfPresentEpoch : History → Event → Answer → Type 0
IsOfPresentEpoch before (Taken host) (answer.Sent e place t) = e ≡ epoch host before
IsOfPresentEpoch before (Answered host e value t) a = e ≡ epoch host before
IsOfPresentEpoch before (Failed host e kind t) a = e ≡ epoch host before
IsOfPresentEpoch before _ _ = ⊤

-- each step of a host names its present epoch
abbrev pub EpochsArePresent : Type 0
EpochsArePresent = (S : Setting) (before : History) (s : Step)
    → IsLegal S (s ∷ before) → IsOfPresentEpoch before s.event s.answer

-- no step of a connection stands before its opening
abbrev pub OpeningsComeFirst : Type 0
OpeningsComeFirst = (S : Setting) (before : History) (s : Step) (c : ℕ)
    → IsLegal S (s ∷ before) → s.event ≡ Opened → s.answer ≡ answer.Opened c
    → connection_steps c before ≡ []

-- a connection that wasn't opened has no steps
abbrev pub UnopenedHaveNoSteps : Type 0
UnopenedHaveNoSteps = (S : Setting) (H : History) (c : ℕ)
    → IsLegal S H → openings H ≤ c → connection_steps c H ≡ []

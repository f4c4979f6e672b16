-- What a worker knows of the turns of a core: of what it sees, the oldest step first, and of the causes of refusals.
use Rattle.std.specs.Prelude.{◌≡◌, ◌≤◌, ℕ, true, List, [], ◌∷◌, ◌++◌, length, filter}
use Rattle.splitter.specs.declared.request.Request.{Request}
use Rattle.proxy_history.specs.Setting.{max_steps}
use Rattle.proxy_history.specs.History.{Step, is_open, is_finishing}
use Rattle.proxy_history.specs.Legal.{IsLegal}
use Rattle.proxy_history.specs.OwnSteps.{is_connection_step}
use Rattle.proxy_history.specs.StepLaws.{IsAnswerTo, IsOfPresentEpoch}
use Rattle.proxy_history.specs.RefusalLaws.{Means}
use Rattle.proxy_history.specs.SeenSteps.{history_of_seen}
use Rattle.proxy_history.specs.declared.event.Event.{Event}
use Rattle.proxy_history.specs.declared.event.Event.TheVariants.{Opened, Arrived}
use Rattle.proxy_history.specs.declared.answer.Answer.TheVariants as answer
use Rattle.proxy_history.specs.declared.refusal.Refusal.{Refusal}
use Rattle.proxy_history.specs.declared.refusal.Refusal.TheVariants as refusal
use Rattle.journal_core.specs.Journal.{step_by}
use Rattle.proxy_core.specs.Recorded.{Origin, setting_by}

-- what a pass has seen of the steps of a connection
abbrev pub seen_of_connection : ℕ → List Step → List Step
seen_of_connection c seen = filter (λ (s : Step). is_connection_step c s.event s.answer) seen

-- Which lists of steps are legal.
module _ (legal : Origin → List Step → Type 0) where
  -- what is seen is a legal history, in the other order
  abbrev pub AreHistories : Type 0
  AreHistories = (made : Origin) (seen : List Step) → legal made seen
      → IsLegal (setting_by made) (history_of_seen seen)

  -- each event has an answer of its kind
  abbrev pub AnswersFit : Type 0
  AnswersFit = (made : Origin) (seen : List Step) (s : Step)
      → legal made (seen ++ s ∷ []) → IsAnswerTo s.event s.answer

  -- no step before uses the number of a connection that is opened
  abbrev pub OpeningsAreNew : Type 0
  OpeningsAreNew = (made : Origin) (seen : List Step) (pass c : ℕ)
      → legal made (seen ++ step_by pass Opened (answer.Opened c) ∷ [])
      → seen_of_connection c seen ≡ []

  -- no more steps are seen than a journal takes
  abbrev pub AreFewSteps : Type 0
  AreFewSteps = (made : Origin) (seen : List Step) → legal made seen
      → length seen ≤ max_steps

  -- each step of a host names its present epoch
  abbrev pub EpochsArePresent : Type 0
  EpochsArePresent = (made : Origin) (seen : List Step) (s : Step)
      → legal made (seen ++ s ∷ []) → IsOfPresentEpoch (history_of_seen seen) s.event s.answer

-- When a refusal of an event is due, over what is seen.
module _ (cause : Origin → Refusal → Event → List Step → Type 0) where
  -- what a refusal says of what is seen
  abbrev pub RefusalsMean : Type 0
  RefusalsMean = (made : Origin) (r : Refusal) (event : Event) (seen : List Step)
      → cause made r event seen → Means (setting_by made) (history_of_seen seen) event r

  -- an open connection that finishes takes no command more
  abbrev pub FinishingTakesNothing : Type 0
  FinishingTakesNothing = (made : Origin) (c : ℕ) (request : Request) (seen : List Step)
      → is_open c (history_of_seen seen) ≡ true
      → is_finishing c (history_of_seen seen) ≡ true
      → cause made refusal.Finishing (Arrived c request) seen

-- What a worker knows of turns whose steps are legal so, and whose refusals have these causes.
pub record CoreLaws (legal : Origin → List Step → Type 0) (cause : Origin → Refusal → Event → List Step → Type 0) : Type 0 where
  pub are_histories : AreHistories legal
  pub answers_fit : AnswersFit legal
  pub openings_are_new : OpeningsAreNew legal
  pub are_few_steps : AreFewSteps legal
  pub epochs_are_present : EpochsArePresent legal
  pub refusals_mean : RefusalsMean cause
  pub finishing_takes_nothing : FinishingTakesNothing cause

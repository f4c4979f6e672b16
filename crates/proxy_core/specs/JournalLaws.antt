-- What a worker knows of turns holds of the journals of a core. Proofs of what a trait promises have to stand in this folder.
use Rattle.std.specs.Prelude.{◌≡◌, ◌≤◌, ℕ, true, List, [], ◌∷◌, ◌++◌, length}
use Rattle.std.proofs.Common.{refl, sym, ap, ◌∙◌, subst}
use Rattle.splitter.specs.declared.request.Request.{Request}
use Rattle.proxy_history.specs.Setting.{max_steps}
use Rattle.proxy_history.specs.History.{Step, is_open, is_finishing}
use Rattle.proxy_history.specs.Past.{past}
use Rattle.proxy_history.specs.Legal.{IsLegal}
use Rattle.proxy_history.specs.StepLaws.{IsAnswerTo, IsOfPresentEpoch}
use Rattle.proxy_history.specs.RefusalLaws.{Means}
use Rattle.proxy_history.specs.SeenSteps.{history_of_seen, seen_of_history}
use Rattle.proxy_history.specs.declared.event.Event.{Event}
use Rattle.proxy_history.specs.declared.event.Event.TheVariants.{Opened, Arrived}
use Rattle.proxy_history.specs.declared.answer.Answer.TheVariants as answer
use Rattle.proxy_history.specs.declared.refusal.Refusal.{Refusal}
use Rattle.proxy_history.specs.declared.refusal.Refusal.TheVariants as refusal
use Rattle.proxy_history.proofs.CallerLemmas as history
use Rattle.journal_core.specs.Journal.{step_by}
use Rattle.proxy_core.specs.Recorded.{Origin, setting_by, IsLegalJournal, IsCauseIn}
use Rattle.proxy_core.specs.CoreTurns.{CoreLaws, seen_of_connection}

-- the last step may follow the others
IsLegal-last : (made : Origin) (seen : List Step) (s : Step) → IsLegalJournal made (seen ++ s ∷ [])
    → IsLegal (setting_by made) (s ∷ history_of_seen seen)
IsLegal-last made seen s legal = (history.IsLegal-history_of_seen-push (setting_by made) seen s).0 legal

-- what is seen of a legal journal is a legal history
are_histories : (made : Origin) (seen : List Step) → IsLegalJournal made seen
    → IsLegal (setting_by made) (history_of_seen seen)
are_histories made seen legal = legal

-- the last answer is one to its event
answers_fit : (made : Origin) (seen : List Step) (s : Step)
    → IsLegalJournal made (seen ++ s ∷ []) → IsAnswerTo s.event s.answer
answers_fit made seen s legal =
    history.IsAnswerTo-IsLegal (setting_by made) (history_of_seen seen) s (IsLegal-last made seen s legal)

-- no step before the opening of a connection is of its number
openings_are_new : (made : Origin) (seen : List Step) (pass c : ℕ)
    → IsLegalJournal made (seen ++ step_by pass Opened (answer.Opened c) ∷ [])
    → seen_of_connection c seen ≡ []
openings_are_new made seen pass c legal =
    let s = step_by pass Opened (answer.Opened c) in
    let own = seen_of_connection c seen in
    let none = history.connection_steps-opened (setting_by made) (history_of_seen seen) s c (IsLegal-last made seen s legal) refl refl in
    let here : history_of_seen own ≡ [] = sym ((history.IsReadInOrder-seen seen).connection_steps_are c) ∙ none in
    sym (history.OrdersAgree-seen own [] []).back ∙ ap seen_of_history here

-- a legal journal is within its limit
are_few_steps : (made : Origin) (seen : List Step) → IsLegalJournal made seen → length seen ≤ max_steps
are_few_steps made seen legal =
    subst (λ n. n ≤ max_steps) (history.OrdersAgree-seen seen [] []).same_length
    (history.IsWithinLimits-IsLegal (setting_by made) (history_of_seen seen) legal).few_steps

-- the last step of a host names its present epoch
epochs_are_present : (made : Origin) (seen : List Step) (s : Step)
    → IsLegalJournal made (seen ++ s ∷ []) → IsOfPresentEpoch (history_of_seen seen) s.event s.answer
epochs_are_present made seen s legal =
    history.IsOfPresentEpoch-IsLegal (setting_by made) (history_of_seen seen) s (IsLegal-last made seen s legal)

-- a cause says what it means of the history
refusals_mean : (made : Origin) (r : Refusal) (event : Event) (seen : List Step)
    → IsCauseIn made r event seen → Means (setting_by made) (history_of_seen seen) event r
refusals_mean made r event seen cause = history.Means-IsCause (setting_by made) (history_of_seen seen) event r cause

-- a connection that finishes takes no command
finishing_takes_nothing : (made : Origin) (c : ℕ) (request : Request) (seen : List Step)
    → is_open c (history_of_seen seen) ≡ true → is_finishing c (history_of_seen seen) ≡ true
    → IsCauseIn made refusal.Finishing (Arrived c request) seen
finishing_takes_nothing made c request seen is_open finishes =
    history.own_cause-finishing (setting_by made) (past (setting_by made) (history_of_seen seen)) c request is_open finishes

-- all of this together
pub core_laws : CoreLaws IsLegalJournal IsCauseIn
core_laws = record {
  are_histories = are_histories;
  answers_fit = answers_fit;
  openings_are_new = openings_are_new;
  are_few_steps = are_few_steps;
  epochs_are_present = epochs_are_present;
  refusals_mean = refusals_mean;
  finishing_takes_nothing = finishing_takes_nothing;
}

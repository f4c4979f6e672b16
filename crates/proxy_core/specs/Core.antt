-- A turn of the core.
use Rattle.std.specs.Prelude.{◌≡◌, ℕ, ◌+◌, List, [], ◌∷◌, ◌++◌, None, Result, Ok, Err}
use Rattle.ejector.specs.State.{State}
use Rattle.ejector.specs.Ejection.{state}
use Rattle.proxy_history.specs.Setting.{Setting}
use Rattle.proxy_history.specs.History.{History}
use Rattle.proxy_history.specs.Past.{past}
use Rattle.proxy_history.specs.Legal.{MayFollow, IsCause}
use Rattle.proxy_history.specs.Proxy.{Proxy}
use Rattle.proxy_history.specs.Proxy as Reference
use Rattle.proxy_history.specs.declared.refusal.Refusal.{Refusal}
use Rattle.proxy_history.specs.declared.refusal.Refusal.TheVariants as refusal
use Rattle.ejector.specs.declared.error.EjectError.{EjectError}
use Rattle.ejector.specs.declared.error.EjectError.TheVariants as eject
use Rattle.proxy_history.specs.declared.answer.Answer.{Answer}
use Rattle.proxy_history.specs.declared.event.Event.{Event}
use Rattle.proxy_core.specs.Machine.{setting_in, history_in, IsKept}
use Rattle.proxy_core.specs.declared.machine.Machine.{Machine}
use Rattle.proxy_core.specs.declared.machine.Done.{Done}
use Rattle.proxy_core.specs.declared.refused.Refused.{Refused}

-- A step of this pass, event and answer was added, which may come next, and what is kept is what the new history determines.
pub record IsMade (old new : Machine) (pass : ℕ) (event : Event) (answer : Answer) : Type 0 where
  pub may_follow : MayFollow (setting_in old) (past (setting_in old) (history_in old)) (record { pass = pass; event = event; answer = answer })
  pub history : history_in new ≡ (record { pass = pass; event = event; answer = answer }) ∷ history_in old
  pub setting : setting_in new ≡ setting_in old
  pub records : new.journal.records ≡ old.journal.records
  pub is_kept : IsKept new

-- the machine with the step of an event that was done
abbrev pub with_step : Machine → ℕ → Event → Done → Machine
with_step m pass event done = record m {
  journal = record {
    steps = m.journal.steps ++ (record { pass = pass; event = event; answer = done.recorded }) ∷ [];
    bytes = m.journal.bytes + done.bytes;
    room = None;
    records = m.journal.records;
  };
}

-- The step of an event that was done was added, and this is answered.
pub record IsSettled (old new : Machine) (pass : ℕ) (event : Event) (result : Result Done Refusal) (answer : Answer) : Type 0 where
  pub done : Done
  pub is_done : result ≡ Ok done
  pub answer_is : answer ≡ done.answer
  pub step : new ≡ with_step old pass event done

-- The event was refused with its cause: no step was added, and what is kept is what the history determines.
pub record IsLeft (old new : Machine) (event : Event) (r : Refused) : Type 0 where
  pub is_event : r.event ≡ event
  pub cause : IsCause (setting_in old) (history_in old) event r.cause
  pub steps : new.journal.steps ≡ old.journal.steps
  pub setting : setting_in new ≡ setting_in old
  pub records : new.journal.records ≡ old.journal.records
  pub is_kept : IsKept new

-- what outlier detection knows of the hosts after a core's steps
abbrev pub detector_state : Proxy → State
detector_state k = state k.setting.rules k.setting.opening (past k.setting (Reference.history_in k)).marks

-- the refusal of a core for whose hosts there is no ejector
abbrev pub refusal_for : EjectError → Refusal
refusal_for eject.NoMemory = refusal.NoMemory
refusal_for (eject.BadSettings field) = refusal.BadSettings field

-- One event was taken: its step was added with this answer, which may come next, or it was refused with its cause and the
-- history stays.
abbrev pub IsTurn : Setting → History → ℕ → Event → Result Answer Refusal → History → Type 0
IsTurn S before pass event (Ok a) after =
    MayFollow S (past S before) (record { pass = pass; event = event; answer = a }) × (after ≡ (record { pass = pass; event = event; answer = a }) ∷ before)
IsTurn S before pass event (Err r) after = IsCause S before event r × (after ≡ before)

-- One event after another was taken, each with its pass, and these are the answers.
abbrev pub IsRun : Setting → History → List (ℕ × Event) → List (Result Answer Refusal) → History → Type 0
IsRun S before [] [] after = after ≡ before
IsRun S before [] (r ∷ results) after = ⊥
IsRun S before (p ∷ pairs) [] after = ⊥
IsRun S before (p ∷ pairs) (r ∷ results) after = (between : History) × IsTurn S before p.0 p.1 r between × IsRun S between pairs results after

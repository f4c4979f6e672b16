-- What is told of a turn that was refused, and for which cause.
use Rattle.std.proofs.Common.{◌≡◌, ◌⊎◌, ℕ, Bool, true, false, List, inl, inr, refl}
use Rattle.std.specs.Prelude.{⊤, Result, IfOk, IfErr}
use Rattle.proxy_core.specs.CoreTurns.{RefusalsMean}
use Rattle.proxy_core.specs.Recorded.{Origin, setting_by}
use Rattle.proxy_history.specs.Setting.{Setting}
use Rattle.proxy_history.specs.History.{History, Step}
use Rattle.proxy_history.specs.SeenSteps.{history_of_seen}
use Rattle.proxy_history.specs.RefusalLaws.{Means}
use Rattle.proxy_history.specs.declared.event.Event.{Event}
use Rattle.proxy_history.specs.declared.refusal.Refusal.{Refusal}
use Rattle.proxy_engines.specs.Faults.{IsOfNoDevice}
use Rattle.engine_work.specs.EngineError.{IsTurnRefused}
use Rattle.proxy_engines.specs.OneTurn.{IsDue, IsDueError, is_error, told_as}
use Rattle.engine_work.specs.declared.error.Denied.{Denied}
use Rattle.proxy_engines.specs.declared.client.Progress.{Progress}
use Rattle.engine_work.specs.declared.error.EngineError.{EngineError}

-- the refusals of an event that are no errors
abbrev pub IsExpected : Event → Refusal → Type 0
IsExpected (Event.Handed c) (Refusal.NotReady left) = ⊤
IsExpected (Event.Arrived c request) Refusal.Crowded = ⊤
IsExpected (Event.Taken h) Refusal.NothingWaiting = ⊤
IsExpected (Event.Answered h e v t) Refusal.Unasked = ⊤
IsExpected event r = ⊥

expected_of : (S : Setting) (H : History) (event : Event) (r : Refusal) → Means S H event r → is_error r ≡ false → IsExpected event r
expected_of S H event Refusal.NoMemory m soft = absurd cc
expected_of S H event Refusal.JournalFull m soft = absurd cc
expected_of S H event Refusal.NoSuchConnection m soft = absurd cc
expected_of S H event Refusal.Finishing m soft = absurd cc
expected_of S H event Refusal.TooManyConnections m soft = absurd cc
expected_of S H event (Refusal.BadSettings field) m soft = absurd cc
expected_of S H event Refusal.NoSuchHost m soft = absurd cc
expected_of S H event Refusal.NotPlain m soft = absurd cc
expected_of S H event (Refusal.Stale current) m soft = absurd cc
expected_of S H Event.Opened Refusal.Crowded m soft = absurd m
expected_of S H (Event.Arrived c request) Refusal.Crowded m soft = tt
expected_of S H (Event.Finished c) Refusal.Crowded m soft = absurd m
expected_of S H (Event.Taken h) Refusal.Crowded m soft = absurd m
expected_of S H (Event.Answered h e v t) Refusal.Crowded m soft = absurd m
expected_of S H (Event.Failed h e kind t) Refusal.Crowded m soft = absurd m
expected_of S H (Event.Swept t) Refusal.Crowded m soft = absurd m
expected_of S H (Event.Handed c) Refusal.Crowded m soft = absurd m
expected_of S H (Event.Closed c) Refusal.Crowded m soft = absurd m
expected_of S H Event.Opened Refusal.NothingWaiting m soft = absurd m
expected_of S H (Event.Arrived c request) Refusal.NothingWaiting m soft = absurd m
expected_of S H (Event.Finished c) Refusal.NothingWaiting m soft = absurd m
expected_of S H (Event.Taken h) Refusal.NothingWaiting m soft = tt
expected_of S H (Event.Answered h e v t) Refusal.NothingWaiting m soft = absurd m
expected_of S H (Event.Failed h e kind t) Refusal.NothingWaiting m soft = absurd m
expected_of S H (Event.Swept t) Refusal.NothingWaiting m soft = absurd m
expected_of S H (Event.Handed c) Refusal.NothingWaiting m soft = absurd m
expected_of S H (Event.Closed c) Refusal.NothingWaiting m soft = absurd m
expected_of S H Event.Opened Refusal.Unasked m soft = absurd m
expected_of S H (Event.Arrived c request) Refusal.Unasked m soft = absurd m
expected_of S H (Event.Finished c) Refusal.Unasked m soft = absurd m
expected_of S H (Event.Taken h) Refusal.Unasked m soft = absurd m
expected_of S H (Event.Answered h e v t) Refusal.Unasked m soft = tt
expected_of S H (Event.Failed h e kind t) Refusal.Unasked m soft = absurd m
expected_of S H (Event.Swept t) Refusal.Unasked m soft = absurd m
expected_of S H (Event.Handed c) Refusal.Unasked m soft = absurd m
expected_of S H (Event.Closed c) Refusal.Unasked m soft = absurd m
expected_of S H Event.Opened (Refusal.NotReady left) m soft = absurd m
expected_of S H (Event.Arrived c request) (Refusal.NotReady left) m soft = absurd m
expected_of S H (Event.Finished c) (Refusal.NotReady left) m soft = absurd m
expected_of S H (Event.Taken h) (Refusal.NotReady left) m soft = absurd m
expected_of S H (Event.Answered h e v t) (Refusal.NotReady left) m soft = absurd m
expected_of S H (Event.Failed h e kind t) (Refusal.NotReady left) m soft = absurd m
expected_of S H (Event.Swept t) (Refusal.NotReady left) m soft = absurd m
expected_of S H (Event.Handed c) (Refusal.NotReady left) m soft = tt
expected_of S H (Event.Closed c) (Refusal.NotReady left) m soft = absurd m

-- why a turn was not made is an error
abbrev IsError : Denied → Type 0
IsError (Denied.By x) = is_error x ≡ true
IsError denied = ⊤

due_error : (cause : Refusal → Event → List Step → Type 0) (event : Event) (seen : List Step) (d : Denied) → IsDue cause event seen d → IsError d → IsDueError cause seen (EngineError.TurnRefused d)
due_error cause event seen Denied.Spent due error = tt
due_error cause event seen (Denied.By x) due error = (error, (event, due))
due_error cause event seen Denied.Astray due error = absurd due

-- what is told of a turn, by whether its refusal is an error
module _ {A : Type 0} (d : Denied) (a : A) (r : Result A EngineError) (is : r ≡ told_as d a) where
  pub told_ok : (P : A → Type 0) → ((x : Refusal) → d ≡ Denied.By x → is_error x ≡ false → P a) → IfOk r P
  told_ok P f = by d refl
    where
      by_error : (x : Refusal) → d ≡ Denied.By x → (b : Bool) → is_error x ≡ b → IfOk r P
      by_error x same true e = rw (is, same, e) tt
      by_error x same false e = rw (is, same, e) (f x same e)

      by : (y : Denied) → d ≡ y → IfOk r P
      by Denied.Spent same = rw (is, same) tt
      by (Denied.By x) same = by_error x same (is_error x) refl
      by Denied.Astray same = rw (is, same) tt

  told_err : (P : EngineError → Type 0) → ((y : Denied) → d ≡ y → IsError y → P (EngineError.TurnRefused y)) → IfErr r P
  told_err P f = by d refl
    where
      by_error : (x : Refusal) → d ≡ Denied.By x → (b : Bool) → is_error x ≡ b → IfErr r P
      by_error x same true e = rw (is, same, e) (f (Denied.By x) same e)
      by_error x same false e = rw (is, same, e) tt

      by : (y : Denied) → d ≡ y → IfErr r P
      by Denied.Spent same = rw (is, same) (f Denied.Spent same tt)
      by (Denied.By x) same = by_error x same (is_error x) refl
      by Denied.Astray same = rw (is, same) (f Denied.Astray same tt)

  pub told_turn : (P : Type 0) → P → IfErr r (λ e. P × IsTurnRefused e)
  told_turn P p = told_err (λ e. P × IsTurnRefused e) (λ y _ _. (p, (y, refl)))

  pub told_due : (cause : Refusal → Event → List Step → Type 0) (event : Event) (seen : List Step) → IsDue cause event seen d → IfErr r (IsDueError cause seen)
  told_due cause event seen due = told_err (IsDueError cause seen) (λ y same error. due_error cause event seen y (rw same at due) error)

  pub told_plain : (cause : Refusal → Event → List Step → Type 0) (event : Event) (seen : List Step) → IsDue cause event seen d → IfErr r (λ e. IsOfNoDevice e × IsDueError cause seen e)
  told_plain cause event seen due = told_err (λ e. IsOfNoDevice e × IsDueError cause seen e) (λ y same error. (tt, due_error cause event seen y (rw same at due) error))

-- a turn that was refused, with what its refusal means
module _ (cause : Origin → Refusal → Event → List Step → Type 0) (means : RefusalsMean cause) (made : Origin) (event : Event) (seen : List Step) (d : Denied) (due : IsDue (cause made) event seen d) where
  -- where it is no error, the event has such a refusal
  pub expected : (x : Refusal) → d ≡ Denied.By x → is_error x ≡ false → IsExpected event x × cause made x event seen
  expected x same soft = let holds = rw same at due in (expected_of (setting_by made) (history_of_seen seen) event x (means made x event seen holds) soft, holds)

  -- the error of an event of which each refusal is one
  pub is_due : ((x : Refusal) → IsExpected event x → ⊥) → IsDueError (cause made) seen (EngineError.TurnRefused d)
  is_due none = due_error (cause made) event seen d due (by d refl)
    where
      by_error : (x : Refusal) → d ≡ Denied.By x → (b : Bool) → is_error x ≡ b → is_error x ≡ true
      by_error x same true error = error
      by_error x same false soft = absurd (none x (expected x same soft).0)

      by : (y : Denied) → d ≡ y → IsError y
      by Denied.Spent same = tt
      by (Denied.By x) same = by_error x same (is_error x) refl
      by Denied.Astray same = tt

-- the one refusal that is no error, of each event that has one
pub is_not_ready : (P : Refusal → Type 0) (c : ℕ) (x : Refusal) → IsExpected (Event.Handed c) x × P x → (left : ℕ) × P (Refusal.NotReady left)
is_not_ready P c (Refusal.NotReady left) (_, p) = (left, p)
is_not_ready P c Refusal.NoMemory (none, _) = absurd none
is_not_ready P c Refusal.JournalFull (none, _) = absurd none
is_not_ready P c Refusal.NoSuchConnection (none, _) = absurd none
is_not_ready P c Refusal.Finishing (none, _) = absurd none
is_not_ready P c Refusal.TooManyConnections (none, _) = absurd none
is_not_ready P c (Refusal.BadSettings field) (none, _) = absurd none
is_not_ready P c Refusal.NoSuchHost (none, _) = absurd none
is_not_ready P c Refusal.NotPlain (none, _) = absurd none
is_not_ready P c (Refusal.Stale current) (none, _) = absurd none
is_not_ready P c Refusal.Crowded (none, _) = absurd none
is_not_ready P c Refusal.NothingWaiting (none, _) = absurd none
is_not_ready P c Refusal.Unasked (none, _) = absurd none

pub is_crowded : (P : Refusal → Type 0) (c : ℕ) (request : _) (x : Refusal) → IsExpected (Event.Arrived c request) x × P x → P Refusal.Crowded
is_crowded P c request Refusal.Crowded (_, p) = p
is_crowded P c request Refusal.NoMemory (none, _) = absurd none
is_crowded P c request Refusal.JournalFull (none, _) = absurd none
is_crowded P c request Refusal.NoSuchConnection (none, _) = absurd none
is_crowded P c request Refusal.Finishing (none, _) = absurd none
is_crowded P c request Refusal.TooManyConnections (none, _) = absurd none
is_crowded P c request (Refusal.BadSettings field) (none, _) = absurd none
is_crowded P c request Refusal.NoSuchHost (none, _) = absurd none
is_crowded P c request Refusal.NotPlain (none, _) = absurd none
is_crowded P c request (Refusal.Stale current) (none, _) = absurd none
is_crowded P c request Refusal.NothingWaiting (none, _) = absurd none
is_crowded P c request Refusal.Unasked (none, _) = absurd none
is_crowded P c request (Refusal.NotReady left) (none, _) = absurd none

pub is_nothing_waiting : (P : Refusal → Type 0) (h : ℕ) (x : Refusal) → IsExpected (Event.Taken h) x × P x → P Refusal.NothingWaiting
is_nothing_waiting P h Refusal.NothingWaiting (_, p) = p
is_nothing_waiting P h Refusal.NoMemory (none, _) = absurd none
is_nothing_waiting P h Refusal.JournalFull (none, _) = absurd none
is_nothing_waiting P h Refusal.NoSuchConnection (none, _) = absurd none
is_nothing_waiting P h Refusal.Finishing (none, _) = absurd none
is_nothing_waiting P h Refusal.TooManyConnections (none, _) = absurd none
is_nothing_waiting P h (Refusal.BadSettings field) (none, _) = absurd none
is_nothing_waiting P h Refusal.NoSuchHost (none, _) = absurd none
is_nothing_waiting P h Refusal.NotPlain (none, _) = absurd none
is_nothing_waiting P h (Refusal.Stale current) (none, _) = absurd none
is_nothing_waiting P h Refusal.Crowded (none, _) = absurd none
is_nothing_waiting P h Refusal.Unasked (none, _) = absurd none
is_nothing_waiting P h (Refusal.NotReady left) (none, _) = absurd none

pub is_unasked : (P : Refusal → Type 0) (h e : ℕ) (v : _) (t : ℕ) (x : Refusal) → IsExpected (Event.Answered h e v t) x × P x → P Refusal.Unasked
is_unasked P h e v t Refusal.Unasked (_, p) = p
is_unasked P h e v t Refusal.NoMemory (none, _) = absurd none
is_unasked P h e v t Refusal.JournalFull (none, _) = absurd none
is_unasked P h e v t Refusal.NoSuchConnection (none, _) = absurd none
is_unasked P h e v t Refusal.Finishing (none, _) = absurd none
is_unasked P h e v t Refusal.TooManyConnections (none, _) = absurd none
is_unasked P h e v t (Refusal.BadSettings field) (none, _) = absurd none
is_unasked P h e v t Refusal.NoSuchHost (none, _) = absurd none
is_unasked P h e v t Refusal.NotPlain (none, _) = absurd none
is_unasked P h e v t (Refusal.Stale current) (none, _) = absurd none
is_unasked P h e v t Refusal.Crowded (none, _) = absurd none
is_unasked P h e v t Refusal.NothingWaiting (none, _) = absurd none
is_unasked P h e v t (Refusal.NotReady left) (none, _) = absurd none

-- and of a close after a fault, where it was refused
pub due_cut : (P : EngineError → Type 0) (answer result : Result Progress EngineError) → IfErr answer P → (result ≡ answer) ⊎ IfErr result P → IfErr result P
due_cut P answer result told (inl same) = rw same told
due_cut P answer result told (inr due) = due

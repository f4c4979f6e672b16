-- What the result of a turn is, where its event is known.
use Rattle.std.proofs.Common.{◌≡◌, ℕ, Result, Ok, Err, IfOk, IfErr, OnOk, OnErr, Some, refl, sym, subst}
use Rattle.std.proofs.lemmas.Result.{IfOk-weaker}
use Rattle.proxy_history.specs.Legal.{IsCause}
use Rattle.proxy_history.specs.Proxy.{IsStep, Proxy}
use Rattle.proxy_history.specs.Proxy as Reference
use Rattle.proxy_history.specs.declared.answer.Answer.{Answer}
use Rattle.proxy_history.specs.declared.event.Event.{Event}
use Rattle.proxy_history.specs.declared.refusal.Refusal.{Refusal}
use Rattle.proxy_core.specs.Memory.{Memory}
use Rattle.proxy_core.specs.Machine.{IsDone, IsKept, IsSame, HasCauseIn, setting_in}
use Rattle.proxy_core.specs.Core.{IsMade, IsLeft, IsSettled, with_step}
use Rattle.proxy_core.specs.declared.machine.Machine.{Machine}
use Rattle.proxy_core.specs.declared.machine.Done.{Done}
use Rattle.proxy_core.specs.declared.refused.Refused.{Refused}
use Rattle.proxy_core.proofs.turn.IsMadeLemmas.{IsTurned, turned, left}

-- All that the event comes to was done but that its step was added, for which there is room.
pub record Makes (old new : Machine) (event : Event) (done : Done) : Type 0 where
  pub made : (pass : ℕ) → IsMade old (with_step new pass event done) pass event done.answer
  pub room : new.journal.room ≡ Some done.bytes

-- what was done makes a step
pub makes : (old new : Machine) (event : Event) (d : Done) (kept : Memory) → IsDone old new event d kept
    → ((pass : ℕ) → IsTurned old (with_step new pass event d) pass event d.answer kept
    → IsMade old (with_step new pass event d) pass event d.answer)
    → Makes old new event d
makes old new event d kept is f = record {
  made = λ pass. f pass (turned old new pass event d kept is);
  room = is.room;
}

pub if_makes : (P : Done → Type 0) (r : Result Done Refusal) (old new : Machine) (event : Event)
    → ((d : Done) → P d → Makes old new event d) → IfOk r P → IfOk r (λ d. Makes old new event d)
if_makes P (Ok d) old new event f h = f d h
if_makes P (Err r) old new event f h = tt

pub has_room : (r : Result Done Refusal) (old new : Machine) (event : Event) → IfOk r (λ d. Makes old new event d)
    → IfOk r (λ d. new.journal.room ≡ Some d.bytes)
has_room r old new event h = IfOk-weaker r _ _ (λ d makes. makes.room) h

settled_to : (done : Result Done Refusal) (old new after : Machine) (pass : ℕ) (event : Event) (a : Answer)
    → IfOk done (λ d. Makes old new event d) → IsSettled new after pass event done a → IsMade old after pass event a
settled_to done old new after pass event a h is =
    let makes = subst (λ (z : Result Done Refusal). IfOk z (λ d. Makes old new event d)) is.is_done h in
    subst (λ (m : Machine). IsMade old m pass event a) (sym is.step)
    (subst (λ (z : Answer). IsMade old (with_step new pass event is.done) pass event z) (sym is.answer_is) (makes.made pass))

pub if_made : (done : Result Done Refusal) (r : Result Answer Refused) (old new after : Machine) (pass : ℕ) (event : Event)
    → IfOk done (λ d. Makes old new event d) → IfOk r (λ a. IsSettled new after pass event done a) → IfOk r (λ a. IsMade old after pass event a)
if_made done r old new after pass event h is = IfOk-weaker r _ _ (λ a. settled_to done old new after pass event a h) is

pub if_left : (done : Result Done Refusal) (r : Result Answer Refused) (old new after : Machine) (event : Event) → IsKept old
    → IfErr done (λ cause. IsSame old new × HasCauseIn old event cause)
    → IfErr r (λ r. (r.event ≡ event) × (done ≡ Err r.cause) × (after ≡ new)) → IfErr r (λ r. IsLeft old after event r)
if_left done (Ok a) old new after event kept h is = tt
if_left done (Err r) old new after event kept h (is_event, is_cause, is_new) =
    let cause = subst (λ (z : Result Done Refusal). IfErr z (λ cause. IsSame old new × HasCauseIn old event cause)) is_cause h in
    subst (λ (m : Machine). IsLeft old m event r) (sym is_new) (left old new event r kept (is_event, cause.0, cause.1))

pub all_three : (P Q R : Done → Type 0) (r : Result Done Refusal) → IfOk r P → IfOk r Q → IfOk r R → IfOk r (λ d. P d × Q d × R d)
all_three P Q R (Ok d) p q s = (p, q, s)
all_three P Q R (Err r) p q s = tt

-- a fact that doesn't depend on the answer
pub if_ok : (P : Type 0) (r : Result Done Refusal) → OnOk r P → IfOk r (λ d. P)
if_ok P (Ok d) p = p
if_ok P (Err r) p = tt

-- THE CORE'S TURN

-- a machine as contracts see its core
abbrev pub proxy_of : Machine → Proxy
proxy_of m = record { setting = setting_in m; steps = m.journal.steps }

pub if_kept : (r : Result Answer Refused) (old new : Machine) (pass : ℕ) (event : Event) → IfOk r (λ a. IsMade old new pass event a)
    → IfErr r (λ x. IsLeft old new event x) → IsKept new
if_kept (Ok a) old new pass event made left = made.is_kept
if_kept (Err x) old new pass event made left = left.is_kept

pub if_records : (r : Result Answer Refused) (old new : Machine) (pass : ℕ) (event : Event) → IfOk r (λ a. IsMade old new pass event a)
    → IfErr r (λ x. IsLeft old new event x) → new.journal.records ≡ old.journal.records
if_records (Ok a) old new pass event made left = made.records
if_records (Err x) old new pass event made left = left.records

pub if_step : (r : Result Answer Refused) (old new : Machine) (k : Proxy) (pass : ℕ) (event : Event) → proxy_of old ≡ k
    → IfOk r (λ a. IsMade old new pass event a) → IfOk r (λ a. IsStep k (proxy_of new) pass event (record { pass = pass; event = event; answer = a }))
if_step (Ok a) old new k pass event same made =
    subst (λ (z : Proxy). IsStep z (proxy_of new) pass event (record { pass = pass; event = event; answer = a })) same
    (record { pass_is = refl; event_is = refl; may_follow = made.may_follow; history = made.history; setting = made.setting })
if_step (Err x) old new k pass event same made = tt

pub if_event : (r : Result Answer Refused) (old new : Machine) (event : Event) → IfErr r (λ x. IsLeft old new event x) → IfErr r (λ x. x.event ≡ event)
if_event (Ok a) old new event left = tt
if_event (Err x) old new event left = left.is_event

pub if_cause : (r : Result Answer Refused) (old new : Machine) (k : Proxy) (event : Event) → proxy_of old ≡ k → IfErr r (λ x. IsLeft old new event x)
    → IfErr r (λ x. IsCause k.setting (Reference.history_in k) event x.cause)
if_cause (Ok a) old new k event same left = tt
if_cause (Err x) old new k event same left = subst (λ (z : Proxy). IsCause z.setting (Reference.history_in z) event x.cause) same left.cause

pub if_same : (r : Result Answer Refused) (old new : Machine) (k : Proxy) (event : Event) → proxy_of old ≡ k → IfErr r (λ x. IsLeft old new event x)
    → OnErr r (proxy_of new ≡ k)
if_same (Ok a) old new k event same left = tt
if_same (Err x) old new k event same left =
    subst (λ (z : Proxy). proxy_of new ≡ z) same (λ i. record { setting = left.setting i; steps = left.steps i })

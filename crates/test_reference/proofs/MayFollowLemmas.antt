-- What may follow a legal history, by what the plain program finds.
use Rattle.std.proofs.Common.{◌≡◌, ◌≢◌, ◌⊎◌, ◌<◌, ℕ, zero, suc, Bool, true, false, List, [], ◌∷◌, get_or, Contains, Option, Some, None, refl, sym, ap, ◌∙◌, subst, inl, inr, arith, if◌then◌else◌}
use Rattle.std.proofs.lemmas.List.{reverse-append}
use Rattle.std.proofs.lemmas.List.Elements.{Contains-append_cases, Contains-append_left, Contains-append_right, Contains-get_or}
use Rattle.proxy_history.specs.Setting.{Setting, hosts}
use Rattle.proxy_history.specs.History.{History, Step}
use Rattle.proxy_history.specs.Part.{Past}
use Rattle.proxy_history.specs.Past.{past}
use Rattle.proxy_history.specs.Cause.{own_cause, causes, first_true}
use Rattle.proxy_history.specs.Answer.{answer_to}
use Rattle.proxy_history.specs.Payload.{has_room}
use Rattle.proxy_history.specs.Legal.{IsLegal, MayFollow, IsCause}
use Rattle.proxy_history.specs.Hosts.{HasHost, HaveHosts}
use Rattle.test_reference.specs.Scan.{history_of}
use Rattle.proxy_history.specs.declared.answer.Answer.{Answer}
use Rattle.proxy_history.specs.declared.refusal.Refusal.{Refusal}
use Rattle.proxy_history.specs.declared.refusal.Refusal.TheVariants as refusal
use Rattle.proxy_history.specs.declared.event.Event.{Event}
use Rattle.proxy_history.specs.declared.event.Event.TheVariants.{Opened, Arrived, Finished, Taken, Answered, Failed, Swept, Handed, Closed}
use Rattle.proxy_history.proofs.CallerLemmas.{HasHost-own_cause}

-- HOSTS

only_one : (t s : Step) (k : ℕ) → k < 1 → get_or (t ∷ []) k s ≡ s → t ≡ s
only_one t s zero l e = e
only_one t s (suc k) l e = absurd (omega (arith, l))

in_history : (S : Setting) (H : History) → IsLegal S H → (s : Step) → Contains H s → HasHost (hosts S) s.event
in_history S [] legal s h = absurd (omega (arith, h.1))
in_history S (t ∷ before) legal s h = elim (Contains-append_cases (t ∷ []) before s h) [
  | inl (place, within, is) ↦ subst (λ (z : Step). HasHost (hosts S) z.event) (only_one t s place within is) (HasHost-own_cause S (past S before) t.event legal.1.has_no_cause)
  | inr earlier ↦ in_history S before legal.0 s earlier
]

reversed : (steps : List Step) (s : Step) → Contains steps s → Contains (history_of steps) s
reversed [] s h = h
reversed (t ∷ steps) s h = subst (λ (z : History). Contains z s) (sym (reverse-append (t ∷ []) steps)) (elim (Contains-append_cases (t ∷ []) steps s h) [
  | inl one ↦ Contains-append_right (history_of steps) (t ∷ []) s one
  | inr later ↦ Contains-append_left (history_of steps) (t ∷ []) s (reversed steps s later)
])

pub legal_have_hosts : (S : Setting) (steps : List Step) → IsLegal S (history_of steps) → HaveHosts (hosts S) steps
legal_have_hosts S steps legal k d l = in_history S (history_of steps) legal (get_or steps k d) (reversed steps (get_or steps k d) (Contains-get_or steps k d l))

-- CAUSES

-- the journal's room is no event's own cause
abbrev AreOthers : List (Bool × Refusal) → Type 0
AreOthers [] = Unit {0}
AreOthers (r ∷ rest) = (r.1 ≢ refusal.JournalFull) × AreOthers rest

not_first : (b : Bool) (r : Refusal) (rest : Option Refusal) → r ≢ refusal.JournalFull → (rest ≡ Some refusal.JournalFull → ⊥) → (if b then Some r else rest) ≡ Some refusal.JournalFull → ⊥
not_first true r rest a f e = let g : r ≡ refusal.JournalFull = cc in a g
not_first false r rest a f e = f e

never_full : (rs : List (Bool × Refusal)) → AreOthers rs → first_true rs ≡ Some refusal.JournalFull → ⊥
never_full [] a e = absurd cc
never_full (r ∷ rest) a e = not_first r.0 r.1 (first_true rest) a.0 (never_full rest a.1) e

others : (S : Setting) (x : Past) (event : Event) → AreOthers (causes S x event)
others S x Opened = ((λ e. absurd cc), tt)
others S x (Arrived conn request) = ((λ e. absurd cc), ((λ e. absurd cc), ((λ e. absurd cc), tt)))
others S x (Finished conn) = ((λ e. absurd cc), ((λ e. absurd cc), tt))
others S x (Taken host) = ((λ e. absurd cc), ((λ e. absurd cc), tt))
others S x (Answered host e value t) = ((λ e. absurd cc), ((λ e. absurd cc), ((λ e. absurd cc), ((λ e. absurd cc), tt))))
others S x (Failed host e kind t) = ((λ e. absurd cc), ((λ e. absurd cc), tt))
others S x (Swept t) = tt
others S x (Handed conn) = ((λ e. absurd cc), ((λ e. absurd cc), tt))
others S x (Closed conn) = ((λ e. absurd cc), tt)

pub cause_is : (S : Setting) (H : History) (event : Event) (r : Refusal) → own_cause S (past S H) event ≡ Some r → (r ≡ refusal.NoMemory) ⊎ IsCause S H event r
cause_is S H event refusal.NoMemory e = inl refl
cause_is S H event refusal.JournalFull e = absurd (never_full (causes S (past S H) event) (others S (past S H) event) e)
cause_is S H event refusal.NoSuchConnection e = inr e
cause_is S H event refusal.Crowded e = inr e
cause_is S H event refusal.NothingWaiting e = inr e
cause_is S H event (refusal.Stale current) e = inr e
cause_is S H event refusal.Unasked e = inr e
cause_is S H event (refusal.NotReady left) e = inr e
cause_is S H event refusal.Finishing e = inr e
cause_is S H event refusal.TooManyConnections e = inr e
cause_is S H event (refusal.BadSettings field) e = inr e
cause_is S H event refusal.NoSuchHost e = inr e
cause_is S H event refusal.NotPlain e = inr e

-- the answer to an event, where there is room
pub follows : (S : Setting) (H : History) (event : Event) (a : Answer) → own_cause S (past S H) event ≡ None → a ≡ answer_to S (past S H) event → has_room H event a ≡ true
    → (pass : ℕ) → MayFollow S (past S H) (record { pass = pass; event = event; answer = a })
follows S H event a none is room pass = record { has_no_cause = none; is_answered = is; has_room = room }

pub full_is : (S : Setting) (H : History) (event : Event) (a : Answer) → own_cause S (past S H) event ≡ None → a ≡ answer_to S (past S H) event → has_room H event a ≡ false
    → (refusal.JournalFull ≡ refusal.NoMemory) ⊎ IsCause S H event refusal.JournalFull
full_is S H event a none is room = inr (none, ap (has_room H event) (sym is) ∙ room)

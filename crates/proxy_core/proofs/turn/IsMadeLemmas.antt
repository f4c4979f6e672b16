-- What an event that is answered, or refused, comes to.
use Rattle.std.proofs.Common.{◌≡◌, ◌≤◌, ◌<◌, ℕ, ◌+◌, ◌++◌, ◌&&◌, Bool, true, false, nat_lt, nat_le, List, [], ◌∷◌, length, Option, None, refl, sym, ap, ◌∙◌, subst, inl, inr, arith}
use Rattle.std.specs.Prelude.{reverse}
use Rattle.std.proofs.lemmas.Bool.{lt-ltb, ltb-true, leb-false, ltb-false, le-ltb, cases_Bool, leb-true}
use Rattle.std.proofs.lemmas.List.{reverse-append, length-reverse}
use Rattle.ejector.specs.State.{State}
use Rattle.ejector.specs.Ejection.{state}
use Rattle.ejector.specs.Settings.{first_fault}
use Rattle.ejector.specs.Opening.{IsOpening}
use Rattle.journal_core.specs.Journal.{IsFull}
use Rattle.proxy_history.specs.Setting.{Setting, hosts, max_steps, max_payload}
use Rattle.proxy_history.specs.History.{History, Step, times, is_any_closing}
use Rattle.proxy_history.specs.Past.{past}
use Rattle.proxy_history.specs.Cause.{own_cause, causes}
use Rattle.proxy_history.specs.Payload.{payload, payload_of, has_room}
use Rattle.proxy_history.specs.Answer.{answer_to}
use Rattle.proxy_history.specs.Legal.{IsLegal, MayFollow, IsCause, Fits}
use Rattle.proxy_history.specs.declared.answer.Answer.{Answer}
use Rattle.proxy_history.specs.declared.event.Event.{Event}
use Rattle.proxy_history.specs.declared.event.Event.TheVariants.{Opened, Arrived, Finished, Taken, Answered, Failed, Swept, Handed, Closed}
use Rattle.proxy_history.specs.declared.refusal.Refusal.{Refusal}
use Rattle.proxy_history.specs.declared.refusal.Refusal.TheVariants as refusal
use Rattle.proxy_history.proofs.CallerLemmas.{first_true-none as are_false}
use Rattle.proxy_core.specs.Connections.{connections_of}
use Rattle.proxy_core.specs.Pipelines.{PipelineState, pipelines_of}
use Rattle.proxy_core.specs.Memory.{Memory, memory_of}
use Rattle.proxy_core.specs.Machine.{setting_in, memory_in, history_in, own_cause_in, payload_in, IsKept, IsDone, IsSame, HasCauseIn, FitsIn}
use Rattle.proxy_core.specs.Core.{IsMade, IsLeft, with_step}
use Rattle.proxy_core.specs.declared.state.connection.Connection.{Connection}
use Rattle.proxy_core.specs.declared.machine.Machine.{Machine}
use Rattle.proxy_core.specs.declared.machine.Done.{Done}
use Rattle.proxy_core.specs.declared.refused.Refused.{Refused}
use Rattle.proxy_core.proofs.connections.ConnectionCounts.{handed_open}
use Rattle.proxy_core.proofs.connections.ConnectionsOfLemmas.{cause_in-opened, cause_in-arrived, cause_in-finished, cause_in-handed, cause_in-closed, payload_in-handed}
use Rattle.proxy_core.proofs.pipelines.PipelinesOfLemmas.{cause_in-taken, cause_in-answered, cause_in-failed, payload_in-taken}

-- CAUSES AND PAYLOADS

cause_in : (S : Setting) (H : History) (event : Event) → own_cause_in S (memory_of S H) event ≡ own_cause S (past S H) event
cause_in S H Opened = cause_in-opened S H
cause_in S H (Arrived conn request) = cause_in-arrived S H conn request
cause_in S H (Finished conn) = cause_in-finished S H conn
cause_in S H (Taken host) = cause_in-taken S H host
cause_in S H (Answered host e value t) = cause_in-answered S H host e t value
cause_in S H (Failed host e kind t) = cause_in-failed S H host e t kind
cause_in S H (Swept t) = refl
cause_in S H (Handed conn) = cause_in-handed S H conn
cause_in S H (Closed conn) = cause_in-closed S H conn

pub taken_has_host : (S : Setting) (H : History) (host : ℕ) → own_cause S (past S H) (Taken host) ≡ None → host < hosts S
taken_has_host S H host n = leb-false (hosts S) host (are_false (causes S (past S H) (Taken host)) n).0

payload_is : (S : Setting) (H : History) (event : Event) → own_cause S (past S H) event ≡ None → payload_in (memory_of S H) event ≡ payload_of event (answer_to S (past S H) event)
payload_is S H (Taken host) n = payload_in-taken S H host (taken_has_host S H host n)
payload_is S H (Handed conn) n = payload_in-handed S H conn (handed_open S (past S H) conn n)
payload_is S H _ n = refl

pub own_cause_is : (m : Machine) (event : Event) → IsKept m → own_cause_in (setting_in m) (memory_in m) event ≡ own_cause (setting_in m) (past (setting_in m) (history_in m)) event
own_cause_is m event kept = ap (λ (z : Memory). own_cause_in (setting_in m) z event) kept.memory ∙ cause_in (setting_in m) (history_in m) event

own_payload_is : (m : Machine) (event : Event) → IsKept m → own_cause (setting_in m) (past (setting_in m) (history_in m)) event ≡ None
    → payload_in (memory_in m) event ≡ payload_of event (answer_to (setting_in m) (past (setting_in m) (history_in m)) event)
own_payload_is m event kept n = ap (λ (z : Memory). payload_in z event) kept.memory ∙ payload_is (setting_in m) (history_in m) event n

-- ROOM

-- whether a step of so many bytes has room
abbrev fits : ℕ → ℕ → Bool
fits steps bytes = nat_lt steps max_steps && nat_le bytes max_payload

steps_fit : (steps bytes : ℕ) → steps < max_steps → bytes ≤ max_payload → fits steps bytes ≡ true
steps_fit steps bytes a b = elim (cases_Bool (nat_le bytes max_payload)) [
  | inl t ↦ rw (lt-ltb steps max_steps a, t) refl
  | inr f ↦ absurd (omega (arith, b, leb-false bytes max_payload f))
]

many_steps : (steps bytes : ℕ) → max_steps ≤ steps → fits steps bytes ≡ false
many_steps steps bytes a = rw (le-ltb steps max_steps a) refl

many_bytes : (steps bytes : ℕ) → max_payload < bytes → fits steps bytes ≡ false
many_bytes steps bytes b = elim (cases_Bool (nat_le bytes max_payload)) [
  | inl t ↦ absurd (omega (arith, b, leb-true bytes max_payload t))
  | inr f ↦ elim (cases_Bool (nat_lt steps max_steps)) [ inl l ↦ rw (l, f) refl | inr g ↦ rw g refl ]
]

-- the journal's room is that of the history
fits-has_room : (m : Machine) (event : Event) (a : Answer) (n : ℕ) → IsKept m → n ≡ payload_of event a
    → fits (length m.journal.steps) (m.journal.bytes + n) ≡ has_room (history_in m) event a
fits-has_room m event a n kept e =
    ap (λ z. fits z (m.journal.bytes + n)) (sym (length-reverse m.journal.steps))
    ∙ ap (λ z. fits (length (history_in m)) (z + n)) (ap (λ (z : Memory). z.bytes) kept.memory)
    ∙ ap (λ z. fits (length (history_in m)) (payload (history_in m) + z)) e

not_full : (m : Machine) (n : ℕ) → (IsFull m.journal n → ⊥) → fits (length m.journal.steps) (m.journal.bytes + n) ≡ true
not_full m n f' = elim (cases_Bool (fits (length m.journal.steps) (m.journal.bytes + n))) [
  | inl t ↦ t
  | inr f ↦ elim (cases_Bool (nat_lt (length m.journal.steps) max_steps)) [
    | inl l ↦ elim (cases_Bool (nat_le (m.journal.bytes + n) max_payload)) [
      | inl k ↦ steps_fit (length m.journal.steps) (m.journal.bytes + n) (ltb-true (length m.journal.steps) max_steps l) (leb-true (m.journal.bytes + n) max_payload k)
      | inr k ↦ absurd (f' (inr (leb-false (m.journal.bytes + n) max_payload k)))
    ]
    | inr l ↦ absurd (f' (inl (ltb-false (length m.journal.steps) max_steps l)))
  ]
]

full : (m : Machine) (n : ℕ) → IsFull m.journal n → fits (length m.journal.steps) (m.journal.bytes + n) ≡ false
full m n (inl a) = many_steps (length m.journal.steps) (m.journal.bytes + n) a
full m n (inr b) = many_bytes (length m.journal.steps) (m.journal.bytes + n) b

-- A STEP MORE

-- A step of this pass, event and answer was added, and this is what is kept now beside it.
pub record IsTurned (old new : Machine) (pass : ℕ) (event : Event) (answer : Answer) (kept : Memory) : Type 0 where
  pub has_no_cause : own_cause_in (setting_in old) (memory_in old) event ≡ None
  pub has_room : IsFull old.journal (payload_in (memory_in old) event) → ⊥
  pub setting : setting_in new ≡ setting_in old
  pub steps : new.journal.steps ≡ old.journal.steps ++ (record { pass = pass; event = event; answer = answer }) ∷ []
  pub records : new.journal.records ≡ old.journal.records
  pub memory : memory_in new ≡ record kept { bytes = old.journal.bytes + payload_in (memory_in old) event }

-- So it is once the step of an event that was done is added.
pub turned : (old new : Machine) (pass : ℕ) (event : Event) (done : Done) (kept : Memory) → IsDone old new event done kept
    → IsTurned old (with_step new pass event done) pass event done.answer kept
turned old new pass event done kept is = record {
  has_no_cause = is.has_no_cause;
  has_room = is.has_room;
  setting = is.setting;
  steps = ap (λ z. z ++ (record { pass = pass; event = event; answer = done.recorded }) ∷ []) is.steps
      ∙ ap (λ z. old.journal.steps ++ (record { pass = pass; event = event; answer = z }) ∷ []) is.recorded;
  records = is.records;
  memory = ap (λ (z : Memory). record z { bytes = z.bytes + done.bytes }) is.memory
      ∙ ap (λ z. record kept { bytes = old.journal.bytes + z }) is.bytes;
}

-- WHAT IS KEPT

-- So it is after a step.
pub record IsMoved (S : Setting) (H : History) (s : Step) (memory : Memory) : Type 0 where
  pub connections : memory.connections ≡ connections_of (past S (s ∷ H))
  pub closed : memory.closed ≡ times is_any_closing (s ∷ H)
  pub pipelines : memory.pipelines ≡ pipelines_of S (past S (s ∷ H))
  pub hosts : memory.hosts ≡ state S.rules S.opening (past S (s ∷ H)).marks

abbrev memory' : ℕ → List (Option Connection) → ℕ → List PipelineState → State → Memory
memory' b c n p h = record { bytes = b; connections = c; closed = n; pipelines = p; hosts = h }

pub same_fields : (b b' : ℕ) (c c' : List (Option Connection)) (n n' : ℕ) (p p' : List PipelineState) (h h' : State) → b ≡ b' → c ≡ c' → n ≡ n' → p ≡ p' → h ≡ h'
    → memory' b c n p h ≡ memory' b' c' n' p' h'
same_fields b b' c c' n n' p p' h h' v w x y z = rw (v, w, x, y, z) refl

-- it is kept where setting and history are these
pub kept_so : (m : Machine) (S : Setting) (H : History) → setting_in m ≡ S → history_in m ≡ H → IsLegal S H → memory_in m ≡ memory_of S H → S.rules.hosts ≡ S.ring.hosts
    → first_fault S.rules ≡ None → IsOpening S.rules S.opening → IsKept m
kept_so m S H a b legal e f g w = record {
  legal = subst (λ (T : Setting). IsLegal T (history_in m)) (sym a) (subst (λ (K : History). IsLegal S K) (sym b) legal);
  memory = e ∙ ap (λ (T : Setting). memory_of T H) (sym a) ∙ ap (λ (K : History). memory_of (setting_in m) K) (sym b);
  hosts = ap (λ (T : Setting). T.rules.hosts) a ∙ f ∙ sym (ap (λ (T : Setting). T.ring.hosts) a);
  rules = ap (λ (T : Setting). first_fault T.rules) a ∙ g;
  opening = subst (λ (T : Setting). IsOpening T.rules T.opening) (sym a) w;
}

-- TURNS

pub no_cause : (old new : Machine) (pass : ℕ) (event : Event) (a : Answer) (memory : Memory) → IsKept old → IsTurned old new pass event a memory
    → own_cause (setting_in old) (past (setting_in old) (history_in old)) event ≡ None
no_cause old new pass event a memory kept turned = sym (own_cause_is old event kept) ∙ turned.has_no_cause

-- an event that is answered as a legal history has it, where what is kept moves with it
pub made : (old new : Machine) (pass : ℕ) (event : Event) (a : Answer) (memory : Memory) → IsKept old → IsTurned old new pass event a memory
    → a ≡ answer_to (setting_in old) (past (setting_in old) (history_in old)) event
    → IsMoved (setting_in old) (history_in old) (record { pass = pass; event = event; answer = a }) memory → IsMade old new pass event a
made old new pass event a memory kept turned is moved =
    let S = setting_in old in
    let H = history_in old in
    let s : Step = record { pass = pass; event = event; answer = a } in
    let n = no_cause old new pass event a memory kept turned in
    let bytes : payload_in (memory_in old) event ≡ payload_of event a = own_payload_is old event kept n ∙ ap (payload_of event) (sym is) in
    let may : MayFollow S (past S H) s = record {
      has_no_cause = n;
      is_answered = is;
      has_room = sym (fits-has_room old event a (payload_in (memory_in old) event) kept bytes) ∙ not_full old (payload_in (memory_in old) event) turned.has_room;
    } in
    let later : history_in new ≡ s ∷ H = ap reverse turned.steps ∙ reverse-append old.journal.steps (s ∷ []) in
    let sum : old.journal.bytes + payload_in (memory_in old) event ≡ payload (s ∷ H) =
    ap (λ z. z + payload_in (memory_in old) event) (ap (λ (z : Memory). z.bytes) kept.memory) ∙ ap (λ z. payload H + z) bytes in
    let now : memory_in new ≡ memory_of S (s ∷ H) = turned.memory
    ∙ same_fields (old.journal.bytes + payload_in (memory_in old) event) (payload (s ∷ H)) memory.connections (connections_of (past S (s ∷ H))) memory.closed (times is_any_closing (s ∷ H))
    memory.pipelines (pipelines_of S (past S (s ∷ H))) memory.hosts (state S.rules S.opening (past S (s ∷ H)).marks) sum moved.connections moved.closed moved.pipelines moved.hosts in
    record {
      may_follow = may;
      history = later;
      setting = turned.setting;
      records = turned.records;
      is_kept = kept_so new S (s ∷ H) turned.setting later (kept.legal, may) now kept.hosts kept.rules kept.opening;
    }

-- REFUSALS

room_so : (m : Machine) (event : Event) → IsKept m → own_cause (setting_in m) (past (setting_in m) (history_in m)) event ≡ None
    → (IsFull m.journal (payload_in (memory_in m) event) → ⊥) → has_room (history_in m) event (answer_to (setting_in m) (past (setting_in m) (history_in m)) event) ≡ true
room_so m event kept n h =
    sym (fits-has_room m event (answer_to (setting_in m) (past (setting_in m) (history_in m)) event) (payload_in (memory_in m) event) kept (own_payload_is m event kept n))
    ∙ not_full m (payload_in (memory_in m) event) h

fits_so : (m : Machine) (event : Event) → IsKept m → own_cause (setting_in m) (past (setting_in m) (history_in m)) event ≡ None → FitsIn m event → Fits (setting_in m) (history_in m) event
fits_so m Opened kept n h = room_so m Opened kept n h
fits_so m (Arrived conn request) kept n h = room_so m (Arrived conn request) kept n h
fits_so m (Finished conn) kept n h = room_so m (Finished conn) kept n h
fits_so m (Taken host) kept n h = room_so m (Taken host) kept n h
fits_so m (Answered host e value t) kept n h = room_so m (Answered host e value t) kept n h
fits_so m (Failed host e kind t) kept n h = room_so m (Failed host e kind t) kept n h
fits_so m (Swept t) kept n h = room_so m (Swept t) kept n h
fits_so m (Handed conn) kept n h = tt
fits_so m (Closed conn) kept n h = room_so m (Closed conn) kept n h

cause_so : (m : Machine) (event : Event) (r : Refusal) → IsKept m → HasCauseIn m event r → IsCause (setting_in m) (history_in m) event r
cause_so m event refusal.NoMemory kept h = let n = sym (own_cause_is m event kept) ∙ h.0 in (n, fits_so m event kept n h.1)
cause_so m event refusal.JournalFull kept h =
    let n = sym (own_cause_is m event kept) ∙ h.0 in (
      n,
      sym (fits-has_room m event (answer_to (setting_in m) (past (setting_in m) (history_in m)) event) (payload_in (memory_in m) event) kept (own_payload_is m event kept n))
          ∙ full m (payload_in (memory_in m) event) h.1,
    )
cause_so m event refusal.NoSuchConnection kept h = sym (own_cause_is m event kept) ∙ h
cause_so m event refusal.Crowded kept h = sym (own_cause_is m event kept) ∙ h
cause_so m event refusal.NothingWaiting kept h = sym (own_cause_is m event kept) ∙ h
cause_so m event (refusal.Stale current) kept h = sym (own_cause_is m event kept) ∙ h
cause_so m event refusal.Unasked kept h = sym (own_cause_is m event kept) ∙ h
cause_so m event (refusal.NotReady left) kept h = sym (own_cause_is m event kept) ∙ h
cause_so m event refusal.Finishing kept h = sym (own_cause_is m event kept) ∙ h
cause_so m event refusal.TooManyConnections kept h = sym (own_cause_is m event kept) ∙ h
cause_so m event (refusal.BadSettings field) kept h = sym (own_cause_is m event kept) ∙ h
cause_so m event refusal.NoSuchHost kept h = sym (own_cause_is m event kept) ∙ h
cause_so m event refusal.NotPlain kept h = sym (own_cause_is m event kept) ∙ h

pub left : (old new : Machine) (event : Event) (r : Refused) → IsKept old → (r.event ≡ event) × IsSame old new × HasCauseIn old event r.cause → IsLeft old new event r
left old new event r kept (is_event, same, has_cause) =
    record {
      is_event = is_event;
      cause = cause_so old event r.cause kept has_cause;
      steps = same.steps;
      setting = same.setting;
      records = same.records;
      is_kept = kept_so new (setting_in old) (history_in old) same.setting (ap reverse same.steps) kept.legal (same.memory ∙ kept.memory) kept.hosts kept.rules kept.opening;
    }

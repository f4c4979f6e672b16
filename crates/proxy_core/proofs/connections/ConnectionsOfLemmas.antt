-- What the connections say that a history determines.
use Rattle.std.proofs.Common.{◌≡◌, ℕ, ◌+◌, ◌-◌, ◌≤◌, Bool, true, false, not, nat_lt, nat_le, [], ◌∷◌, length, Some, None, is_some, refl, ap, ◌∙◌, inl, inr, arith, if◌then◌else◌}
use Rattle.std.specs.Prelude.{◌↔◌, ◌&&◌, IsTrue, slice_get}
use Rattle.std.specs.Option.{option_and_then, unwrap_or}
use Rattle.std.proofs.lemmas.Bool.{cases_Bool, ltb-true, ltb-false}
use Rattle.std.proofs.lemmas.List.{length-drop}
use Rattle.std.proofs.lemmas.List.FromFn.{length-map-range_with_len}
use Rattle.std.proofs.lemmas.Option.{slice_get_past}
use Rattle.list_lemmas.proofs.CallerLemmas.{slice_get-table, slice_get-past_range}
use Rattle.resp_core.specs.Tree.{null_bulk}
use Rattle.resp_core.specs.Text.{text}
use Rattle.splitter.specs.declared.request.Request.{Request}
use Rattle.reply_queue.specs.Queue.{front_reply}
use Rattle.proxy_history.specs.Setting.{Setting, max_connections}
use Rattle.proxy_history.specs.History.{History, times, openings, accepted_count, handed_count, is_open, is_closed, is_finishing, is_any_closing, requests, plan_for}
use Rattle.proxy_history.specs.Part.{Past}
use Rattle.proxy_history.specs.Past.{past}
use Rattle.proxy_history.specs.Cause.{own_cause, is_ready, commands_left, first_true}
use Rattle.proxy_history.specs.Outcome.{outcome, outcome_by}
use Rattle.proxy_history.specs.Answer.{answer_to}
use Rattle.proxy_history.specs.Payload.{payload_of}
use Rattle.proxy_history.specs.Legal.{IsLegal}
use Rattle.proxy_history.specs.declared.event.Event.TheVariants.{Opened, Arrived, Finished, Handed, Closed}
use Rattle.proxy_history.specs.declared.refusal.Refusal.TheVariants as refusal
use Rattle.proxy_history.proofs.CallerLemmas.{length-requests}
use Rattle.proxy_core.specs.Connections.{queue_of, connection_of, connections_of, connection_at, reply_in}
use Rattle.proxy_core.specs.Memory.{memory_of}
use Rattle.proxy_core.specs.Machine.{own_cause_in, text_in, payload_in}
use Rattle.proxy_core.specs.declared.state.connection.Connection.{Connection}
use Rattle.proxy_core.proofs.connections.CommandRows.{row, length-row, front_reply-row}
use Rattle.proxy_core.proofs.connections.ConnectionCounts.{handed_were_accepted, open_parts}

-- THE CONNECTION OF A NUMBER

pub length-connections_of : (x : Past) → length (connections_of x) ≡ openings x.steps
length-connections_of x = length-map-range_with_len (connection_of x) 0 (openings x.steps)

-- an open connection
abbrev pub open_connection : Past → ℕ → Connection
open_connection x c = record { queue = queue_of x c; is_finishing = is_finishing c x.steps }

connection_of-by_closed : (x : Past) (c : ℕ) (b : Bool) → is_closed c x.steps ≡ b
    → connection_of x c ≡ (if not b then Some (open_connection x c) else None)
connection_of-by_closed x c true e = rw e refl
connection_of-by_closed x c false e = rw e refl

pub connection_at-connections_of : (x : Past) (c : ℕ) → connection_at c (connections_of x) ≡ (if is_open c x.steps then Some (open_connection x c) else None)
connection_at-connections_of x c = elim (cases_Bool (nat_lt c (openings x.steps))) [
  | inl t ↦
      ap (option_and_then (λ k. k)) (slice_get-table (connection_of x) (openings x.steps) c (ltb-true c (openings x.steps) t))
      ∙ connection_of-by_closed x c (is_closed c x.steps) refl ∙ rw t refl
  | inr f ↦
      ap (option_and_then (λ k. k)) (slice_get-past_range (connection_of x) 0 (openings x.steps) c (ltb-false c (openings x.steps) f)) ∙ rw f refl
]

pub connection_at-open : (x : Past) (c : ℕ) → is_open c x.steps ≡ true → connection_at c (connections_of x) ≡ Some (open_connection x c)
connection_at-open x c e = connection_at-connections_of x c ∙ rw e refl

pub connection_at-not_open : (x : Past) (c : ℕ) → is_open c x.steps ≡ false → connection_at c (connections_of x) ≡ None
connection_at-not_open x c e = connection_at-connections_of x c ∙ rw e refl

pub slice_get-open : (x : Past) (c : ℕ) → is_open c x.steps ≡ true → slice_get (connections_of x) c ≡ Some (Some (open_connection x c))
slice_get-open x c e =
    let a = open_parts c x.steps e in
    slice_get-table (connection_of x) (openings x.steps) c a.0 ∙ ap Some (connection_of-by_closed x c false a.1)

-- ITS QUEUE

pub length-queue_of : (x : Past) (c : ℕ) → length (queue_of x c).commands ≡ commands_left c x
length-queue_of x c = length-drop (handed_count c x.steps) (row x c) ∙ ap (λ z. z - handed_count c x.steps) (length-row x c)

-- as many were popped and are left as were accepted
pub popped_and_left : (S : Setting) (H : History) (c : ℕ) → IsLegal S H
    → (queue_of (past S H) c).popped + length (queue_of (past S H) c).commands ≡ accepted_count c H
popped_and_left S H c legal = omega (arith, length-queue_of (past S H) c, handed_were_accepted S H c legal)

-- the reply in front is the next outcome
pub front_reply-queue_of : (x : Past) (c : ℕ) → front_reply (queue_of x c).commands ≡ outcome c (handed_count c x.steps) x
front_reply-queue_of x c = front_reply-row x c (handed_count c x.steps)

-- CAUSES

-- where no outcome is awaited there is none
no_outcome : (x : Past) (c n : ℕ) → accepted_count c x.steps ≤ n → outcome c n x ≡ None
no_outcome x c n l = ap (option_and_then (λ request. outcome_by x c n (plan_for request))) (slice_get_past (requests c x.steps) n (omega (arith, l, length-requests c x.steps)))

pub ready_is : (x : Past) (c : ℕ) → is_some (outcome c (handed_count c x.steps) x) ≡ is_ready c x
ready_is x c = elim (cases_Bool (nat_lt 0 (commands_left c x))) [
  | inl t ↦ rw t refl
  | inr f ↦
      let l : commands_left c x ≤ 0 = ltb-false 0 (commands_left c x) f in
      rw (f, no_outcome x c (handed_count c x.steps) (omega (arith, l))) refl
]

-- whether there is a reply in front
pub is_some-reply_in : (x : Past) (c : ℕ) → is_some (reply_in (connection_at c (connections_of x))) ≡ (is_open c x.steps && is_ready c x)
is_some-reply_in x c = elim (cases_Bool (is_open c x.steps)) [
  | inl t ↦ rw (connection_at-open x c t, t, front_reply-queue_of x c) (ready_is x c)
  | inr f ↦ rw (connection_at-not_open x c f, f) refl
]

handed_by : (opened ready : Bool) (n : ℕ)
    → IsTrue (opened && ready) ↔ ((if not opened then Some refusal.NoSuchConnection else (if not ready then Some (refusal.NotReady n) else None)) ≡ None)
handed_by true true n = (λ _. refl, λ _. refl)
handed_by true false n = (λ e. absurd cc, λ e. absurd cc)
handed_by false ready n = (λ e. absurd cc, λ e. absurd cc)

-- a reply can be handed out exactly where the connection is open and the reply has come
pub own_cause-handed : (S : Setting) (x : Past) (c : ℕ) → IsTrue (is_open c x.steps && is_ready c x) ↔ (own_cause S x (Handed c) ≡ None)
own_cause-handed S x c = handed_by (is_open c x.steps) (is_ready c x) (commands_left c x)

pub cause_in-opened : (S : Setting) (H : History) → own_cause_in S (memory_of S H) Opened ≡ own_cause S (past S H) Opened
cause_in-opened S H =
    ap (λ n. first_true ((nat_le max_connections (n - times is_any_closing H), refusal.TooManyConnections) ∷ [])) (length-connections_of (past S H))

pub cause_in-arrived : (S : Setting) (H : History) (conn : ℕ) (request : Request) → own_cause_in S (memory_of S H) (Arrived conn request) ≡ own_cause S (past S H) (Arrived conn request)
cause_in-arrived S H conn request = elim (cases_Bool (is_open conn H)) [
  | inl t ↦ rw (connection_at-open (past S H) conn t, t, length-queue_of (past S H) conn) refl
  | inr f ↦ rw (connection_at-not_open (past S H) conn f, f) refl
]

pub cause_in-finished : (S : Setting) (H : History) (conn : ℕ) → own_cause_in S (memory_of S H) (Finished conn) ≡ own_cause S (past S H) (Finished conn)
cause_in-finished S H conn = elim (cases_Bool (is_open conn H)) [
  | inl t ↦ rw (connection_at-open (past S H) conn t, t) refl
  | inr f ↦ rw (connection_at-not_open (past S H) conn f, f) refl
]

pub cause_in-handed : (S : Setting) (H : History) (conn : ℕ) → own_cause_in S (memory_of S H) (Handed conn) ≡ own_cause S (past S H) (Handed conn)
cause_in-handed S H conn = elim (cases_Bool (is_open conn H)) [
  | inl t ↦ rw (connection_at-open (past S H) conn t, t, length-queue_of (past S H) conn, front_reply-queue_of (past S H) conn)
      (ap (λ b. if not b then Some (refusal.NotReady (commands_left conn (past S H))) else None) (ready_is (past S H) conn))
  | inr f ↦ rw (connection_at-not_open (past S H) conn f, f) refl
]

pub cause_in-closed : (S : Setting) (H : History) (conn : ℕ) → own_cause_in S (memory_of S H) (Closed conn) ≡ own_cause S (past S H) (Closed conn)
cause_in-closed S H conn = elim (cases_Bool (is_open conn H)) [
  | inl t ↦ rw (connection_at-open (past S H) conn t, t) refl
  | inr f ↦ rw (connection_at-not_open (past S H) conn f, f) refl
]

-- TEXTS

-- the text of the reply that is handed out next
pub text_in-handed : (S : Setting) (H : History) (conn : ℕ) → is_open conn H ≡ true
    → text_in (memory_of S H) (Handed conn) ≡ text (unwrap_or (outcome conn (handed_count conn H) (past S H)) null_bulk)
text_in-handed S H conn t =
    rw (connection_at-open (past S H) conn t) (ap (λ z. text (unwrap_or z null_bulk)) (front_reply-queue_of (past S H) conn))

pub payload_in-handed : (S : Setting) (H : History) (conn : ℕ) → is_open conn H ≡ true
    → payload_in (memory_of S H) (Handed conn) ≡ payload_of (Handed conn) (answer_to S (past S H) (Handed conn))
payload_in-handed S H conn t = ap (λ z. 0 + length z) (text_in-handed S H conn t)

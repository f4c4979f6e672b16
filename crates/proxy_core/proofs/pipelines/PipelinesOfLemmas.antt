-- What the pipelines say that a history determines.
use Rattle.std.proofs.Common.{◌≡◌, ℕ, ◌+◌, ◌<◌, ◌≤◌, Bool, nat_le, List, [], ◌∷◌, length, map, filter, drop, refl, ap, ◌∙◌, inl, inr, arith}
use Rattle.std.specs.Option.{unwrap_or}
use Rattle.std.proofs.lemmas.Bool.{cases_Bool, leb-false}
use Rattle.std.proofs.lemmas.List.{length-map, length-drop, length-append}
use Rattle.std.proofs.lemmas.List.FromFn.{length-map-range_with_len}
use Rattle.list_lemmas.proofs.CallerLemmas.{slice_get-table}
use Rattle.resp_core.specs.declared.value.Value.{Value}
use Rattle.proxy_history.specs.Setting.{Setting, hosts}
use Rattle.proxy_history.specs.History.{History, openings, epoch, is_opening, is_fault}
use Rattle.proxy_history.specs.Replies.{replies_from}
use Rattle.proxy_history.specs.Part.{Part, Past, is_of}
use Rattle.proxy_history.specs.Past.{past}
use Rattle.proxy_history.specs.Waiting.{waiting_parts, flying_count, first, sent_by, sent_to}
use Rattle.proxy_history.specs.Cause.{own_cause}
use Rattle.proxy_history.specs.Answer.{answer_to, text_of_first}
use Rattle.proxy_history.specs.Payload.{payload_of}
use Rattle.proxy_history.specs.declared.event.Kind.{Kind}
use Rattle.proxy_history.specs.declared.event.Event.{Event}
use Rattle.proxy_history.specs.declared.event.Event.TheVariants.{Taken, Answered, Failed}
use Rattle.proxy_history.proofs.CallerLemmas.{times-length}
use Rattle.proxy_core.specs.Pipelines.{pipe_part, place_of, pipeline_of, pipelines_of, no_pipeline, pipeline_at, text_of_oldest}
use Rattle.proxy_core.specs.Memory.{memory_of}
use Rattle.proxy_core.specs.Machine.{own_cause_in, payload_in}

-- THE PIPELINE OF A HOST

pub length-pipelines_of : (S : Setting) (x : Past) → length (pipelines_of S x) ≡ hosts S
length-pipelines_of S x = length-map-range_with_len (pipeline_of x) 0 (hosts S)

pub pipeline_at-pipelines_of : (S : Setting) (x : Past) (h : ℕ) → h < hosts S → pipeline_at h (pipelines_of S x) ≡ pipeline_of x h
pipeline_at-pipelines_of S x h l = ap (λ o. unwrap_or o no_pipeline) (slice_get-table (pipeline_of x) (hosts S) h l)

-- WHAT WAITS AND WHAT FLIES

pub length-pipeline_waiting : (x : Past) (h : ℕ) → length (pipeline_of x h).waiting ≡ length (waiting_parts h x)
length-pipeline_waiting x h = length-map (waiting_parts h x) pipe_part

pub length-pipeline_flying : (x : Past) (h : ℕ) → length (pipeline_of x h).flying ≡ flying_count h x
length-pipeline_flying x h =
    let e = epoch h x.steps in
    length-map (drop (length (replies_from h e x.steps)) (sent_to h e x)) (place_of x) ∙ length-drop (length (replies_from h e x.steps)) (sent_to h e x)

oldest_text : (ps : List Part) → text_of_oldest (map pipe_part ps) ≡ text_of_first ps
oldest_text [] = refl
oldest_text (p ∷ ps) = refl

-- the oldest part that waits is the first
pub text_of_oldest-pipeline : (x : Past) (h : ℕ) → text_of_oldest (pipeline_of x h).waiting ≡ text_of_first (waiting_parts h x)
text_of_oldest-pipeline x h = oldest_text (waiting_parts h x)

-- CAUSES

pub cause_in-taken : (S : Setting) (H : History) (host : ℕ) → own_cause_in S (memory_of S H) (Taken host) ≡ own_cause S (past S H) (Taken host)
cause_in-taken S H host = elim (cases_Bool (nat_le (hosts S) host)) [
  | inl t ↦ rw t refl
  | inr f ↦ rw (f, pipeline_at-pipelines_of S (past S H) host (leb-false (hosts S) host f), length-pipeline_waiting (past S H) host) refl
]

pub cause_in-answered : (S : Setting) (H : History) (host e t : ℕ) (value : Value)
    → own_cause_in S (memory_of S H) (Answered host e value t) ≡ own_cause S (past S H) (Answered host e value t)
cause_in-answered S H host e t value = elim (cases_Bool (nat_le (hosts S) host)) [
  | inl t ↦ rw t refl
  | inr f ↦ rw (f, pipeline_at-pipelines_of S (past S H) host (leb-false (hosts S) host f), length-pipeline_flying (past S H) host) refl
]

pub cause_in-failed : (S : Setting) (H : History) (host e t : ℕ) (kind : Kind)
    → own_cause_in S (memory_of S H) (Failed host e kind t) ≡ own_cause S (past S H) (Failed host e kind t)
cause_in-failed S H host e t kind = elim (cases_Bool (nat_le (hosts S) host)) [
  | inl t ↦ rw t refl
  | inr f ↦ rw (f, pipeline_at-pipelines_of S (past S H) host (leb-false (hosts S) host f)) refl
]

-- SIZES

length_of_filter : (f : Part → Bool) (ps : List Part) → length (filter f ps) ≤ length ps
length_of_filter f [] = omega arith
length_of_filter f (p ∷ ps) = elim (cases_Bool (f p)) [
  | inl t ↦ rw t (omega (arith, length_of_filter f ps))
  | inr n ↦ rw n (omega (arith, length_of_filter f ps))
]

one_at_most : (ps : List Part) → length (first ps) ≤ 1
one_at_most [] = omega arith
one_at_most (p ∷ ps) = omega arith

one_sent_at_most : (x : Past) (event : Event) → length (sent_by x event) ≤ 1
one_sent_at_most x (Taken host) = one_at_most (waiting_parts host x)
one_sent_at_most x _ = omega arith

sent-at_most : (S : Setting) (H : History) → length (past S H).sent ≤ length H
sent-at_most S [] = omega arith
sent-at_most S (s ∷ H) =
    let x = past S H in
    omega (arith, sent-at_most S H, one_sent_at_most x s.event, length-append x.sent (sent_by x s.event))

-- no more parts are sent than there are steps
pub sent_to-at_most : (S : Setting) (H : History) (h e : ℕ) → length (sent_to h e (past S H)) ≤ length H
sent_to-at_most S H h e = omega (arith, length_of_filter (is_of h e) (past S H).sent, sent-at_most S H)

pub epoch-at_most : (h : ℕ) (H : History) → epoch h H ≤ length H
epoch-at_most h H = times-length (is_fault h) H

pub opened-at_most : (H : History) → openings H ≤ length H
opened-at_most H = times-length is_opening H

-- PAYLOAD

pub payload_in-taken : (S : Setting) (H : History) (host : ℕ) → host < hosts S
    → payload_in (memory_of S H) (Taken host) ≡ payload_of (Taken host) (answer_to S (past S H) (Taken host))
payload_in-taken S H host l =
    rw (pipeline_at-pipelines_of S (past S H) host l) (ap (λ z. 0 + length z) (text_of_oldest-pipeline (past S H) host))

-- A pipeline that an event has nothing to do with stays as it is.
use Rattle.std.proofs.Common.{◌≡◌, ℕ, false, List, [], ◌∷◌, ◌++◌, length, map, filter, drop, Option, refl, ap, ◌∙◌}
use Rattle.std.proofs.lemmas.List.{append-nil}
use Rattle.std.proofs.lemmas.List.Elements.{filter-append}
use Rattle.list_lemmas.proofs.CallerLemmas.{filter-same}
use Rattle.upstream_pipe.specs.declared.part.Owner.{Owner}
use Rattle.upstream_pipe.specs.declared.part.Part.{Part as PipePart}
use Rattle.proxy_history.specs.Setting.{Setting}
use Rattle.proxy_history.specs.History.{Step, epoch, is_fault, is_closing}
use Rattle.proxy_history.specs.Replies.{replies_from, reply_by}
use Rattle.proxy_history.specs.Part.{Part, Past, is_of}
use Rattle.proxy_history.specs.Past.{after}
use Rattle.proxy_history.specs.Waiting.{waiting_parts, waits, sent_by, sent_to}
use Rattle.proxy_history.specs.Arrival.{parts_by}
use Rattle.proxy_history.proofs.CallerLemmas.{sent_to-after}
use Rattle.proxy_core.specs.Pipelines.{PipelineState, pipe_part, place_of, pipeline_of}
use Rattle.proxy_core.proofs.connections.CommandRows.{same_values}

-- PIPELINES WITH THE SAME FIELDS

abbrev state : List PipePart → List (Option Owner) → ℕ → ℕ → PipelineState
state waiting flying epoch taken = record { waiting = waiting; flying = flying; epoch = epoch; taken = taken }

same_fields : (w w' : List PipePart) (f f' : List (Option Owner)) (e e' t t' : ℕ) → w ≡ w' → f ≡ f' → e ≡ e' → t ≡ t' → state w f e t ≡ state w' f' e' t'
same_fields w w' f f' e e' t t' a b c d = rw (a, b, c, d) refl

pub same_pipeline : (p q : PipelineState) → p.waiting ≡ q.waiting → p.flying ≡ q.flying → p.epoch ≡ q.epoch → p.taken ≡ q.taken → p ≡ q
same_pipeline p q a b c d = same_fields p.waiting q.waiting p.flying q.flying p.epoch q.epoch p.taken q.taken a b c d

-- THE PLACES OF WHAT WAS SENT

pub same_places : (S : Setting) (x : Past) (s : Step) → ((c : ℕ) → is_closing c s.event ≡ false) → (ps : List Part) → map (place_of (after S s x)) ps ≡ map (place_of x) ps
same_places S x s closes_none ps = same_values (place_of (after S s x)) (place_of x) (λ p. rw (closes_none p.conn) refl) ps

-- A HOST APART FROM AN EVENT

-- The event has nothing to do with the host: it is no fault of the host, sends nothing to it, brings no reply of it, and
-- changes nothing of what waits for it. It closes no connection.
pub record IsApartFrom (S : Setting) (x : Past) (s : Step) (h : ℕ) : Type 0 where
  pub is_no_fault : is_fault h s.event ≡ false
  pub sends_none : (e : ℕ) → filter (is_of h e) (sent_by x s.event) ≡ []
  pub brings_none : (e : ℕ) → reply_by h e s.event ≡ []
  pub closes_none : (c : ℕ) → is_closing c s.event ≡ false
  pub same_waiting : waiting_parts h (after S s x) ≡ waiting_parts h x

pub pipeline_stays : (S : Setting) (x : Past) (s : Step) (h : ℕ) → IsApartFrom S x s h → pipeline_of (after S s x) h ≡ pipeline_of x h
pipeline_stays S x s h a =
    let x' = after S s x in
    let e = epoch h x.steps in
    let same_epoch : epoch h (s ∷ x.steps) ≡ e = rw a.is_no_fault refl in
    let same_sent : sent_to h e x' ≡ sent_to h e x = sent_to-after S x s h e ∙ ap (λ z. sent_to h e x ++ z) (a.sends_none e) ∙ append-nil (sent_to h e x) in
    let same_came : replies_from h e (s ∷ x.steps) ≡ replies_from h e x.steps = ap (λ z. replies_from h e x.steps ++ z) (a.brings_none e) ∙ append-nil (replies_from h e x.steps) in
    same_pipeline (pipeline_of x' h) (pipeline_of x h)
    (ap (map pipe_part) a.same_waiting)
    (ap (λ z. map (place_of x') (drop (length (replies_from h z (s ∷ x.steps))) (sent_to h z x'))) same_epoch
    ∙ ap (λ z. map (place_of x') (drop (length z) (sent_to h e x'))) same_came
    ∙ ap (λ z. map (place_of x') (drop (length (replies_from h e x.steps)) z)) same_sent
    ∙ same_places S x s a.closes_none (drop (length (replies_from h e x.steps)) (sent_to h e x)))
    same_epoch
    (ap (λ z. length (sent_to h z x')) same_epoch ∙ ap length same_sent)

-- WHAT WAITS

waits_on : (S : Setting) (x : Past) (s : Step) (h : ℕ) (q : Part) → is_fault h s.event ≡ false → sent_by x s.event ≡ [] → ((c : ℕ) → is_closing c s.event ≡ false)
    → waits h (after S s x) q ≡ waits h x q
waits_on S x s h q no_fault sends_none closes_none = rw (no_fault, sends_none, append-nil x.sent, closes_none q.conn) refl

-- where nothing is sent or closed and no fault happens, those that waited wait on, and some of the new parts wait
pub waiting_with : (S : Setting) (x : Past) (s : Step) (h : ℕ) → is_fault h s.event ≡ false → sent_by x s.event ≡ [] → ((c : ℕ) → is_closing c s.event ≡ false)
    → waiting_parts h (after S s x) ≡ waiting_parts h x ++ filter (waits h x) (parts_by S x s.event)
waiting_with S x s h no_fault sends_none closes_none =
    filter-same (waits h (after S s x)) (waits h x) (λ q. waits_on S x s h q no_fault sends_none closes_none) (x.parts ++ parts_by S x s.event)
    ∙ filter-append (waits h x) x.parts (parts_by S x s.event)

-- and if no parts come, nothing changes
pub waiting_stays : (S : Setting) (x : Past) (s : Step) (h : ℕ) → is_fault h s.event ≡ false → sent_by x s.event ≡ [] → ((c : ℕ) → is_closing c s.event ≡ false)
    → parts_by S x s.event ≡ [] → waiting_parts h (after S s x) ≡ waiting_parts h x
waiting_stays S x s h no_fault sends_none closes_none brings_none =
    waiting_with S x s h no_fault sends_none closes_none ∙ ap (λ z. waiting_parts h x ++ filter (waits h x) z) brings_none ∙ append-nil (waiting_parts h x)

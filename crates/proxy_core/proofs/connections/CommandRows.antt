-- The commands of a connection, and what they are a step later.
use Rattle.std.proofs.Common.{◌≡◌, ℕ, zero, suc, ◌+◌, ◌<◌, ◌≤◌, false, List, [], ◌∷◌, ◌++◌, length, map, drop, Option, Some, None, refl, ap, ◌∙◌, arith}
use Rattle.std.specs.Prelude.{option_map, slice_get}
use Rattle.std.specs.Option.{option_and_then}
use Rattle.std.proofs.Math.Seq.{drop-nil}
use Rattle.std.proofs.lemmas.List.{append-nil}
use Rattle.resp_core.specs.Tree.{Tree}
use Rattle.splitter.specs.Plan.{Plan, here, leave, parts}
use Rattle.splitter.specs.Join.{join_of}
use Rattle.splitter.specs.declared.request.Request.{Request}
use Rattle.reply_queue.specs.Command.{AwaitedCommand, reply_to, all_values}
use Rattle.reply_queue.specs.Queue.{front_reply}
use Rattle.proxy_history.specs.Setting.{Setting}
use Rattle.proxy_history.specs.History.{Step, accepted_count, is_fault, requests, request_by, plan_for}
use Rattle.proxy_history.specs.Replies.{replies_from, reply_by}
use Rattle.proxy_history.specs.Part.{Part, Past}
use Rattle.proxy_history.specs.Past.{after}
use Rattle.proxy_history.specs.Waiting.{sent_by}
use Rattle.proxy_history.specs.Value.{value_of, value_at, value_or}
use Rattle.proxy_history.specs.Outcome.{outcome, outcome_by, parts_of, values_of, with_value}
use Rattle.proxy_history.specs.declared.event.Event.{Event}
use Rattle.proxy_history.proofs.CallerLemmas.{length-requests, parts_of-after as parts_stay}
use Rattle.proxy_core.specs.Connections.{awaited_by, awaited_from}

-- the commands of a connection, also those that are handed out
abbrev pub row : Past → ℕ → List AwaitedCommand
row x c = awaited_from x c 0 (requests c x.steps)

-- ROWS

pub length-awaited_from : (x : Past) (c i : ℕ) (rs : List Request) → length (awaited_from x c i rs) ≡ length rs
length-awaited_from x c i [] = refl
length-awaited_from x c i (r ∷ rs) = omega (arith, length-awaited_from x c (i + 1) rs)

pub length-row : (x : Past) (c : ℕ) → length (row x c) ≡ accepted_count c x.steps
length-row x c = length-awaited_from x c 0 (requests c x.steps) ∙ length-requests c x.steps

pub slice_get-awaited_from : (x : Past) (c i : ℕ) (rs : List Request) (k : ℕ)
    → slice_get (awaited_from x c i rs) k ≡ option_map (λ r. awaited_by x c (i + k) (plan_for r)) (slice_get rs k)
slice_get-awaited_from x c i [] k = refl
slice_get-awaited_from x c i (r ∷ rs) zero = let e : i ≡ i + 0 = omega arith in ap (λ z. Some (awaited_by x c z (plan_for r))) e
slice_get-awaited_from x c i (r ∷ rs) (suc k) =
    let e : (i + 1) + k ≡ i + suc k = omega arith in
    slice_get-awaited_from x c (i + 1) rs k ∙ ap (λ z. option_map (λ r. awaited_by x c z (plan_for r)) (slice_get rs k)) e

-- the newest command stands behind the others
pub awaited_from-more : (x : Past) (c i : ℕ) (rs : List Request) (r : Request)
    → awaited_from x c i (rs ++ r ∷ []) ≡ awaited_from x c i rs ++ awaited_by x c (i + length rs) (plan_for r) ∷ []
awaited_from-more x c i [] r = let e : i ≡ i + 0 = omega arith in ap (λ z. awaited_by x c z (plan_for r) ∷ []) e
awaited_from-more x c i (q ∷ rs) r =
    let e : (i + 1) + length rs ≡ i + length (q ∷ rs) = omega arith in
    ap (λ z. awaited_by x c i (plan_for q) ∷ z) (awaited_from-more x c (i + 1) rs r
    ∙ ap (λ z. awaited_from x c (i + 1) rs ++ awaited_by x c z (plan_for r) ∷ []) e)

-- THE REPLY IN FRONT

pub front_reply-drop : (commands : List AwaitedCommand) (n : ℕ) → front_reply (drop n commands) ≡ option_and_then reply_to (slice_get commands n)
front_reply-drop [] n = rw (drop-nil {A = AwaitedCommand} n) refl
front_reply-drop (k ∷ commands) zero = refl
front_reply-drop (k ∷ commands) (suc n) = front_reply-drop commands n

all_values-values_of : (x : Past) (ps : List Part) → all_values (map (value_of x) ps) ≡ values_of x ps
all_values-values_of x [] = refl
all_values-values_of x (p ∷ ps) = by_value (value_of x p) (map (value_of x) ps) (values_of x ps) (all_values-values_of x ps)
  where
    by_value : (o : Option Tree) (vs : List (Option Tree)) (all : Option (List Tree)) → all_values vs ≡ all → all_values (o ∷ vs) ≡ with_value o all
    by_value None vs all e = refl
    by_value (Some v) vs None e = rw e refl
    by_value (Some v) vs (Some ts) e = rw e refl

-- the reply to a command is its outcome
pub reply_to-awaited_by : (x : Past) (c i : ℕ) (plan : Plan) → reply_to (awaited_by x c i plan) ≡ outcome_by x c i plan
reply_to-awaited_by x c i (here name value) = refl
reply_to-awaited_by x c i (leave name value) = refl
reply_to-awaited_by x c i (parts how list) = ap (option_map (join_of how)) (all_values-values_of x (parts_of c i x))

reply_by_request : (x : Past) (c i : ℕ) (o : Option Request)
    → option_and_then reply_to (option_map (λ r. awaited_by x c (0 + i) (plan_for r)) o) ≡ option_and_then (λ r. outcome_by x c i (plan_for r)) o
reply_by_request x c i None = refl
reply_by_request x c i (Some r) =
    let e : 0 + i ≡ i = omega arith in
    ap (λ z. reply_to (awaited_by x c z (plan_for r))) e ∙ reply_to-awaited_by x c i (plan_for r)

-- the reply in front, where so many are handed out, is the next outcome
pub front_reply-row : (x : Past) (c n : ℕ) → front_reply (drop n (row x c)) ≡ outcome c n x
front_reply-row x c n =
    front_reply-drop (row x c) n
    ∙ ap (option_and_then reply_to) (slice_get-awaited_from x c 0 (requests c x.steps) n)
    ∙ reply_by_request x c n (slice_get (requests c x.steps) n)

-- QUIET EVENTS

-- The event sends nothing, brings no reply and is no fault.
pub record IsQuiet (x : Past) (event : Event) : Type 0 where
  pub sends_none : sent_by x event ≡ []
  pub brings_none : (h e : ℕ) → reply_by h e event ≡ []
  pub is_no_fault : (h : ℕ) → is_fault h event ≡ false

quiet_at : (S : Setting) (x : Past) (s : Step) (p : Part) (o : Option ℕ) → IsQuiet x s.event → value_at (after S s x) p o ≡ value_at x p o
quiet_at S x s p None q = refl
quiet_at S x s p (Some h) q =
    rw (q.is_no_fault h, q.sends_none, q.brings_none h p.epoch, append-nil x.sent, append-nil (replies_from h p.epoch x.steps)) refl

-- it changes no value
pub quiet_value : (S : Setting) (x : Past) (s : Step) (p : Part) → IsQuiet x s.event → value_of (after S s x) p ≡ value_of x p
quiet_value S x s p q = ap (value_or p.local) (quiet_at S x s p p.host q)

pub same_values : {X : Type 0} (f g : Part → X) → ((p : Part) → f p ≡ g p) → (ps : List Part) → map f ps ≡ map g ps
same_values f g e [] = refl
same_values f g e (p ∷ ps) = rw (e p, same_values f g e ps) refl

-- ROWS A STEP LATER

-- A command whose parts keep their values stays as it is.
steady_command : (S : Setting) (x : Past) (s : Step) (c i : ℕ) (plan : Plan) → ((p : Part) → value_of (after S s x) p ≡ value_of x p) → i < accepted_count c x.steps
    → awaited_by (after S s x) c i plan ≡ awaited_by x c i plan
steady_command S x s c i (here name value) same l = refl
steady_command S x s c i (leave name value) same l = refl
steady_command S x s c i (parts how list) same l =
    ap (λ z. record { how = how; values = map (value_of (after S s x)) z }) (parts_stay S x c i s l)
    ∙ ap (λ z. record { how = how; values = z }) (same_values (value_of (after S s x)) (value_of x) same (parts_of c i x))

steady_from : (S : Setting) (x : Past) (s : Step) (c i : ℕ) (rs : List Request) → ((p : Part) → value_of (after S s x) p ≡ value_of x p) → i + length rs ≤ accepted_count c x.steps
    → awaited_from (after S s x) c i rs ≡ awaited_from x c i rs
steady_from S x s c i [] same l = refl
steady_from S x s c i (r ∷ rs) same l =
    rw (steady_command S x s c i (plan_for r) same (omega (arith, l)), steady_from S x s c (i + 1) rs same (omega (arith, l))) refl

-- the commands that arrived before are the same
steady_before : (S : Setting) (x : Past) (s : Step) (c : ℕ) → ((p : Part) → value_of (after S s x) p ≡ value_of x p) → awaited_from (after S s x) c 0 (requests c x.steps) ≡ row x c
steady_before S x s c same = steady_from S x s c 0 (requests c x.steps) same (omega (arith, length-requests c x.steps))

-- where each part keeps its value and no command arrives, the row stays
pub steady_row : (S : Setting) (x : Past) (s : Step) (c : ℕ) → ((p : Part) → value_of (after S s x) p ≡ value_of x p) → request_by c s.event ≡ [] → row (after S s x) c ≡ row x c
steady_row S x s c same e =
    ap (λ z. awaited_from (after S s x) c 0 (requests c x.steps ++ z)) e ∙ ap (awaited_from (after S s x) c 0) (append-nil (requests c x.steps))
    ∙ steady_before S x s c same

pub quiet_before : (S : Setting) (x : Past) (s : Step) (c : ℕ) → IsQuiet x s.event → awaited_from (after S s x) c 0 (requests c x.steps) ≡ row x c
quiet_before S x s c q = steady_before S x s c (λ p. quiet_value S x s p q)

pub quiet_row : (S : Setting) (x : Past) (s : Step) (c : ℕ) → IsQuiet x s.event → request_by c s.event ≡ [] → row (after S s x) c ≡ row x c
quiet_row S x s c q e = steady_row S x s c (λ p. quiet_value S x s p q) e

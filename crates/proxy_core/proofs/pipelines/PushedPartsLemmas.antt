-- How the pipelines change as a command arrives.
use Rattle.std.proofs.Common.{◌≡◌, ℕ, true, false, List, [], ◌∷◌, ◌++◌, length, map, filter, drop, Option, Some, None, refl, sym, ap, ◌∙◌, inl, inr, if◌then◌else◌}
use Rattle.std.specs.List.{range_with_len}
use Rattle.std.proofs.lemmas.Bool.{cases_Bool, eq-eqb, and_right}
use Rattle.std.proofs.lemmas.List.{append-nil, append_assoc, map-append}
use Rattle.list_lemmas.proofs.CallerLemmas.{map-same, changed_at-table}
use Rattle.resp_core.specs.Tree.{Tree}
use Rattle.splitter.specs.Plan.{Plan, here, leave, parts}
use Rattle.splitter.specs.declared.request.Request.{Request}
use Rattle.proxy_history.specs.Setting.{Setting, hosts}
use Rattle.proxy_history.specs.History.{History, Step, epoch, accepted_count, is_closed, plan_for}
use Rattle.proxy_history.specs.Replies.{replies_from}
use Rattle.proxy_history.specs.Part.{Part, Past, is_of}
use Rattle.proxy_history.specs.Past.{past, after}
use Rattle.proxy_history.specs.Waiting.{waiting_parts, waits, sent_to}
use Rattle.proxy_history.specs.Arrival.{parts_by, placed_by}
use Rattle.proxy_history.specs.Cause.{own_cause}
use Rattle.proxy_history.specs.declared.answer.Answer.{Answer}
use Rattle.proxy_history.specs.declared.event.Event.TheVariants.{Arrived}
use Rattle.proxy_history.proofs.CallerLemmas.{AreOf, AreOf-placing_first as are_placed}
use Rattle.proxy_core.specs.Pipelines.{PipelineState, pipe_part, place_of, pipeline_of, pipelines_of, with_pipeline, pushed_part, pushed_parts}
use Rattle.proxy_core.proofs.connections.ConnectionCounts.{arrived_open, open_parts}
use Rattle.proxy_core.proofs.connections.ConnectionEvents.{differs}
use Rattle.proxy_core.proofs.parts.NewParts.{AreNow, placing_are_now, not_sent}
use Rattle.proxy_core.proofs.pipelines.UnchangedPipeline.{same_pipeline, same_places, waiting_with}

-- PARTS THAT ARE PUSHED

-- the part waits, if it is one for the host
abbrev adding : History → ℕ → Part → PipelineState → PipelineState
adding H h p q = if is_of h (epoch h H) p then record q { waiting = q.waiting ++ pipe_part p ∷ [] } else q

abbrev all_added : History → ℕ → List Part → PipelineState → PipelineState
all_added H h [] q = q
all_added H h (p ∷ ps) q = all_added H h ps (adding H h p q)

-- those for the host wait behind the others
added_wait : (H : History) (h : ℕ) (ps : List Part) (q : PipelineState)
    → all_added H h ps q ≡ record q { waiting = q.waiting ++ map pipe_part (filter (is_of h (epoch h H)) ps) }
added_wait H h [] q = same_pipeline q (record q { waiting = q.waiting ++ [] }) (sym (append-nil q.waiting)) refl refl refl
added_wait H h (p ∷ ps) q = elim (cases_Bool (is_of h (epoch h H) p)) [
  | inl t ↦ rw t (added_wait H h ps (record q { waiting = q.waiting ++ pipe_part p ∷ [] })
      ∙ ap (λ z. record q { waiting = z }) (append_assoc q.waiting (pipe_part p ∷ []) (map pipe_part (filter (is_of h (epoch h H)) ps))))
  | inr f ↦ rw f (added_wait H h ps q)
]

pushed_one : (H : History) (n : ℕ) (f : ℕ → PipelineState) (p : Part) (host : Option ℕ) (local : Option Tree) → p.host ≡ host → p.local ≡ local
    → ((h : ℕ) → host ≡ Some h → p.epoch ≡ epoch h H) → pushed_part p (map f (range_with_len 0 n)) ≡ map (λ h. adding H h p (f h)) (range_with_len 0 n)
pushed_one H n f p host (Some v) a b now =
    let pushed : pushed_part p (map f (range_with_len 0 n)) ≡ map f (range_with_len 0 n) = rw b refl in
    let none_of : (h : ℕ) → is_of h (epoch h H) p ≡ false = λ h. rw b (and_right _ false refl) in
    pushed ∙ map-same f (λ h. adding H h p (f h)) (range_with_len 0 n) (λ h. rw (none_of h) refl)
pushed_one H n f p None None a b now =
    let pushed : pushed_part p (map f (range_with_len 0 n)) ≡ map f (range_with_len 0 n) = rw (b, a) refl in
    pushed ∙ map-same f (λ h. adding H h p (f h)) (range_with_len 0 n) (λ h. rw a refl)
pushed_one H n f p (Some k) None a b now =
    let here : is_of k (epoch k H) p ≡ true = rw (a, b, eq-eqb k k refl, eq-eqb p.epoch (epoch k H) (now k refl)) refl in
    let elsewhere : (j : ℕ) → (j ≡ k → ⊥) → is_of j (epoch j H) p ≡ false = λ j q. rw (a, differs j k q) refl in
    let waits_more : PipelineState → PipelineState = λ (q : PipelineState). record q { waiting = q.waiting ++ pipe_part p ∷ [] } in
    let pushed : pushed_part p (map f (range_with_len 0 n)) ≡ with_pipeline waits_more k (map f (range_with_len 0 n)) = rw (b, a) refl in
    pushed ∙ changed_at-table f (λ h. adding H h p (f h)) waits_more n k (λ l. rw here refl) (λ j l q. rw (elsewhere j q) refl)

-- each pipeline gets the parts for its host
pushed_all : (H : History) (n : ℕ) (ps : List Part) (f : ℕ → PipelineState) → AreNow H ps
    → pushed_parts ps (map f (range_with_len 0 n)) ≡ map (λ h. all_added H h ps (f h)) (range_with_len 0 n)
pushed_all H n [] f a = refl
pushed_all H n (p ∷ ps) f a =
    ap (pushed_parts ps) (pushed_one H n f p p.host p.local refl refl a.0) ∙ pushed_all H n ps (λ h. adding H h p (f h)) a.1

-- NEW PARTS

placed_of_command : (S : Setting) (x : Past) (conn : ℕ) (plan : Plan) → AreOf conn (accepted_count conn x.steps) (placed_by S x conn plan)
placed_of_command S x conn (parts how list) = are_placed S x conn list
placed_of_command S x conn (here name value) = tt
placed_of_command S x conn (leave name value) = tt

placed_now : (S : Setting) (x : Past) (conn : ℕ) (plan : Plan) → AreNow x.steps (placed_by S x conn plan)
placed_now S x conn (parts how list) = placing_are_now S x conn (accepted_count conn x.steps) [] list tt
placed_now S x conn (here name value) = tt
placed_now S x conn (leave name value) = tt

-- a new part waits for its host, if its connection is open
new_wait : (S : Setting) (H : History) (conn h : ℕ) (ps : List Part) → is_closed conn H ≡ false → AreOf conn (accepted_count conn H) ps
    → filter (waits h (past S H)) ps ≡ filter (is_of h (epoch h H)) ps
new_wait S H conn h [] o a = refl
new_wait S H conn h (p ∷ ps) o (of_conn, of_command, others) =
    let next : p.command ≡ accepted_count p.conn H = of_command ∙ ap (λ z. accepted_count z H) (sym of_conn) in
    let its_open : is_closed p.conn H ≡ false = ap (λ z. is_closed z H) of_conn ∙ o in
    elim (cases_Bool (is_of h (epoch h H) p)) [
      | inl t ↦ rw (t, not_sent S H p next, its_open) (ap (λ z. p ∷ z) (new_wait S H conn h ps o others))
      | inr f ↦ rw f (new_wait S H conn h ps o others)
    ]

arrived_at : (S : Setting) (H : History) (pass conn : ℕ) (request : Request) (answer : Answer) (h : ℕ) → is_closed conn H ≡ false
    → all_added H h (parts_by S (past S H) (Arrived conn request)) (pipeline_of (past S H) h)
    ≡ pipeline_of (after S (record { pass = pass; event = Arrived conn request; answer = answer }) (past S H)) h
arrived_at S H pass conn request answer h o =
    let x = past S H in
    let s : Step = record { pass = pass; event = Arrived conn request; answer = answer } in
    let x' = after S s x in
    let e = epoch h H in
    let new = parts_by S x (Arrived conn request) in
    let same_sent : sent_to h e x' ≡ sent_to h e x = rw (append-nil x.sent) refl in
    let same_came : replies_from h e (s ∷ H) ≡ replies_from h e H = append-nil (replies_from h e H) in
    let waits_now : waiting_parts h x' ≡ waiting_parts h x ++ filter (is_of h e) new =
    waiting_with S x s h refl refl (λ c. refl) ∙ ap (λ z. waiting_parts h x ++ z) (new_wait S H conn h new o (placed_of_command S x conn (plan_for request))) in
    added_wait H h new (pipeline_of x h)
    ∙ sym (same_pipeline (pipeline_of x' h) (record (pipeline_of x h) { waiting = (pipeline_of x h).waiting ++ map pipe_part (filter (is_of h e) new) })
    (ap (map pipe_part) waits_now ∙ map-append pipe_part (waiting_parts h x) (filter (is_of h e) new))
    (ap (λ z. map (place_of x') (drop (length z) (sent_to h e x'))) same_came
    ∙ ap (λ z. map (place_of x') (drop (length (replies_from h e H)) z)) same_sent
    ∙ same_places S x s (λ c. refl) (drop (length (replies_from h e H)) (sent_to h e x)))
    refl
    (ap length same_sent))

-- the parts of the command wait for their hosts
pub pipelines-arrived : (S : Setting) (H : History) (pass conn : ℕ) (request : Request) (answer : Answer) → own_cause S (past S H) (Arrived conn request) ≡ None
    → pipelines_of S (past S (record { pass = pass; event = Arrived conn request; answer = answer } ∷ H))
    ≡ pushed_parts (parts_by S (past S H) (Arrived conn request)) (pipelines_of S (past S H))
pipelines-arrived S H pass conn request answer n =
    let x = past S H in
    let s : Step = record { pass = pass; event = Arrived conn request; answer = answer } in
    let new = parts_by S x (Arrived conn request) in
    let o = (open_parts conn H (arrived_open S x conn request n)).1 in
    sym (pushed_all H (hosts S) new (pipeline_of x) (placed_now S x conn (plan_for request))
    ∙ map-same (λ h. all_added H h new (pipeline_of x h)) (pipeline_of (after S s x)) (range_with_len 0 (hosts S)) (λ h. arrived_at S H pass conn request answer h o))

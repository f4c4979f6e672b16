-- How the pipelines change with an event, but for an arrival.
use Rattle.std.proofs.Common.{◌≡◌, ℕ, ◌+◌, Bool, true, false, not, ◌==◌, ◌||◌, List, [], ◌∷◌, length, map, filter, drop, Some, None, refl, sym, ap, ◌∙◌, inl, inr, arith, if◌then◌else◌}
use Rattle.std.specs.List.{range_with_len}
use Rattle.std.proofs.Math.Seq.{drop-nil}
use Rattle.std.proofs.lemmas.Bool.{cases_Bool, ne_eqb, eq-eqb, both_ways}
use Rattle.std.proofs.lemmas.List.{append-nil, length-append}
use Rattle.std.proofs.lemmas.Simd.{map-map}
use Rattle.list_lemmas.proofs.CallerLemmas.{map-same, changed_at-table}
use Rattle.resp_core.specs.declared.value.Value.{Value}
use Rattle.resp_core.specs.Value.{tree_of}
use Rattle.upstream_pipe.specs.declared.part.Owner.{Owner}
use Rattle.upstream_pipe.specs.Pipe.{is_kept, forgotten_owner}
use Rattle.proxy_history.specs.Setting.{Setting, hosts}
use Rattle.proxy_history.specs.History.{History, Step, epoch, is_closed, is_fault, is_closing}
use Rattle.proxy_history.specs.Replies.{replies_from, reply_by}
use Rattle.proxy_history.specs.Part.{Part, Past, is_of}
use Rattle.proxy_history.specs.Past.{past, after}
use Rattle.proxy_history.specs.Waiting.{waiting_parts, waits, first, sent_by, sent_to}
use Rattle.proxy_history.specs.Arrival.{parts_by}
use Rattle.proxy_history.specs.Cause.{own_cause}
use Rattle.proxy_history.specs.declared.answer.Answer.{Answer}
use Rattle.proxy_history.specs.declared.event.Kind.{Kind}
use Rattle.proxy_history.specs.declared.event.Event.{Event}
use Rattle.proxy_history.specs.declared.event.Event.TheVariants.{Opened, Finished, Taken, Answered, Failed, Swept, Handed, Closed}
use Rattle.proxy_history.proofs.CallerLemmas.{own_cause-answered as is_current, eq-sym as eqb_sym, is_of-true as is_of_parts, AreOfPast, filter-none_of_next as none_of_next, waiting-closed as after_closed, AreOfPast-cons as of_past_grows, AreOfPast-append as of_past_both, AreOfPast-parts as are_of_past, waiting-failed as fault_empties}
use Rattle.proxy_core.specs.Pipelines.{owner_of_part, pipe_part, place_of, pipeline_of, pipelines_of, with_pipeline, answered_by, failed_pipeline, without_connection}
use Rattle.proxy_core.proofs.connections.CommandRows.{IsQuiet, same_values}
use Rattle.proxy_core.proofs.connections.ConnectionEvents.{quiet-opened, quiet-finished, quiet-handed, differs, drop-one_more}
use Rattle.proxy_core.proofs.connections.UnchangedConnections.{quiet-swept}
use Rattle.proxy_core.proofs.pipelines.UnchangedPipeline.{same_pipeline, same_places, pipeline_stays, waiting_stays}

-- EVENTS WITH NOTHING TO DO WITH HOSTS

-- a quiet event that brings no parts and closes no connection changes no pipeline
all_stay : (S : Setting) (x : Past) (s : Step) → IsQuiet x s.event → parts_by S x s.event ≡ [] → ((c : ℕ) → is_closing c s.event ≡ false) → pipelines_of S (after S s x) ≡ pipelines_of S x
all_stay S x s quiet no_parts closes_none =
    map-same (pipeline_of (after S s x)) (pipeline_of x) (range_with_len 0 (hosts S)) (λ h. pipeline_stays S x s h (record {
      is_no_fault = quiet.is_no_fault h;
      sends_none = λ e. ap (filter (is_of h e)) quiet.sends_none;
      brings_none = λ e. quiet.brings_none h e;
      closes_none = closes_none;
      same_waiting = waiting_stays S x s h (quiet.is_no_fault h) quiet.sends_none closes_none no_parts;
    }))

pub pipelines-opened : (S : Setting) (H : History) (pass : ℕ) (answer : Answer)
    → pipelines_of S (past S (record { pass = pass; event = Opened; answer = answer } ∷ H)) ≡ pipelines_of S (past S H)
pipelines-opened S H pass answer = all_stay S (past S H) (record { pass = pass; event = Opened; answer = answer }) (quiet-opened (past S H)) refl (λ c. refl)

pub pipelines-finished : (S : Setting) (H : History) (pass conn : ℕ) (answer : Answer)
    → pipelines_of S (past S (record { pass = pass; event = Finished conn; answer = answer } ∷ H)) ≡ pipelines_of S (past S H)
pipelines-finished S H pass conn answer = all_stay S (past S H) (record { pass = pass; event = Finished conn; answer = answer }) (quiet-finished (past S H) conn) refl (λ c. refl)

pub pipelines-swept : (S : Setting) (H : History) (pass t : ℕ) (answer : Answer)
    → pipelines_of S (past S (record { pass = pass; event = Swept t; answer = answer } ∷ H)) ≡ pipelines_of S (past S H)
pipelines-swept S H pass t answer = all_stay S (past S H) (record { pass = pass; event = Swept t; answer = answer }) (quiet-swept (past S H) t) refl (λ c. refl)

pub pipelines-handed : (S : Setting) (H : History) (pass conn : ℕ) (answer : Answer)
    → pipelines_of S (past S (record { pass = pass; event = Handed conn; answer = answer } ∷ H)) ≡ pipelines_of S (past S H)
pipelines-handed S H pass conn answer = all_stay S (past S H) (record { pass = pass; event = Handed conn; answer = answer }) (quiet-handed (past S H) conn) refl (λ c. refl)

-- ANSWERED

drop_first : {X Y : Type 0} (f : X → Y) (xs : List X) → map f (drop 1 xs) ≡ drop 1 (map f xs)
drop_first f [] = refl
drop_first f (x ∷ xs) = refl

answered_at : (S : Setting) (x : Past) (s : Step) (host t : ℕ) (value : Value) → s.event ≡ Answered host (epoch host x.steps) value t
    → pipeline_of (after S s x) host ≡ answered_by (pipeline_of x host)
answered_at S x s host t value q =
    let e = epoch host x.steps in
    let x' = after S s x in
    let no_fault : is_fault host s.event ≡ false = rw q refl in
    let closes_none : (c : ℕ) → is_closing c s.event ≡ false = λ c. rw q refl in
    let same_epoch : epoch host (s ∷ x.steps) ≡ e = rw no_fault refl in
    let same_sent : sent_to host e x' ≡ sent_to host e x = rw (q, append-nil x.sent) refl in
    let one : reply_by host e s.event ≡ tree_of value ∷ [] = rw (q, eq-eqb host host refl, eq-eqb e e refl) refl in
    let one_more : length (replies_from host e (s ∷ x.steps)) ≡ length (replies_from host e x.steps) + 1 =
    length-append (replies_from host e x.steps) (reply_by host e s.event) ∙ ap (λ z. length (replies_from host e x.steps) + length z) one in
    let n = length (replies_from host e x.steps) in
    same_pipeline (pipeline_of x' host) (answered_by (pipeline_of x host))
    (ap (map pipe_part) (waiting_stays S x s host no_fault (rw q refl) closes_none (rw q refl)))
    (ap (λ z. map (place_of x') (drop (length (replies_from host z (s ∷ x.steps))) (sent_to host z x'))) same_epoch
    ∙ ap (λ z. map (place_of x') (drop z (sent_to host e x'))) one_more
    ∙ ap (λ z. map (place_of x') (drop (n + 1) z)) same_sent
    ∙ same_places S x s closes_none (drop (n + 1) (sent_to host e x))
    ∙ ap (map (place_of x)) (drop-one_more n (sent_to host e x))
    ∙ drop_first (place_of x) (drop n (sent_to host e x)))
    same_epoch
    (ap (λ z. length (sent_to host z x')) same_epoch ∙ ap length same_sent)

-- the oldest that flies leaves
pub pipelines-answered : (S : Setting) (H : History) (pass host e t : ℕ) (value : Value) (answer : Answer) → own_cause S (past S H) (Answered host e value t) ≡ None
    → pipelines_of S (past S (record { pass = pass; event = Answered host e value t; answer = answer } ∷ H)) ≡ with_pipeline answered_by host (pipelines_of S (past S H))
pipelines-answered S H pass host e t value answer n =
    let x = past S H in
    let s : Step = record { pass = pass; event = Answered host e value t; answer = answer } in
    sym (changed_at-table (pipeline_of x) (pipeline_of (after S s x)) answered_by (hosts S) host
    (λ l. answered_at S x s host t value (ap (λ z. Answered host z value t) (is_current S x host e t value n)))
    (λ j l q. let d = differs j host q in sym (pipeline_stays S x s j (record {
      is_no_fault = refl;
      sends_none = λ k. refl;
      brings_none = λ k. rw d refl;
      closes_none = λ c. refl;
      same_waiting = waiting_stays S x s j refl refl (λ c. refl) refl;
    }))))

-- FAILED

of_past_filter : (H : History) (f : Part → Bool) (ps : List Part) → AreOfPast H ps → AreOfPast H (filter f ps)
of_past_filter H f [] a = tt
of_past_filter H f (p ∷ ps) a = elim (cases_Bool (f p)) [
  | inl t ↦ rw t (a.0, of_past_filter H f ps a.1)
  | inr n ↦ rw n (of_past_filter H f ps a.1)
]

of_past_first : (H : History) (ps : List Part) → AreOfPast H ps → AreOfPast H (first ps)
of_past_first H [] a = tt
of_past_first H (p ∷ ps) a = (a.0, tt)

sent_now : (H : History) (event : Event) (x : Past) → AreOfPast H x.parts → AreOfPast H (sent_by x event)
sent_now H (Taken host) x a = of_past_first H (waiting_parts host x) (of_past_filter H (waits host x) x.parts a)
sent_now H _ x a = tt

-- no part that was sent is of an epoch to come
pub sent_of_past : (S : Setting) (H : History) → AreOfPast H (past S H).sent
sent_of_past S [] = tt
sent_of_past S (s ∷ H) =
    let x = past S H in
    of_past_both (s ∷ H) x.sent (sent_by x s.event) (of_past_grows s H x.sent (sent_of_past S H))
    (of_past_grows s H (sent_by x s.event) (sent_now H s.event x (are_of_past S H)))

-- nothing was sent in an epoch to come
pub none_sent_later : (S : Setting) (H : History) (h : ℕ) → sent_to h (epoch h H + 1) (past S H) ≡ []
none_sent_later S H h = none_of_next h (past S H) (past S H).sent (is_of h (epoch h H + 1)) (λ q t.
    let a = is_of_parts h (epoch h H + 1) q t in (a.0, omega (arith, a.1))) (sent_of_past S H)

failed_at : (S : Setting) (H : History) (s : Step) (host : ℕ) → is_fault host s.event ≡ true → sent_by (past S H) s.event ≡ [] → waiting_parts host (past S (s ∷ H)) ≡ []
    → pipeline_of (past S (s ∷ H)) host ≡ failed_pipeline (pipeline_of (past S H) host)
failed_at S H s host is_fault sends_none none_waits =
    let x = past S H in
    let x' = past S (s ∷ H) in
    let e = epoch host H in
    let next : epoch host (s ∷ H) ≡ e + 1 = rw is_fault refl in
    let same_sent : sent_to host (e + 1) x' ≡ sent_to host (e + 1) x = rw (sends_none, append-nil x.sent) refl in
    let none : sent_to host (epoch host (s ∷ H)) x' ≡ [] = ap (λ z. sent_to host z x') next ∙ same_sent ∙ none_sent_later S H host in
    same_pipeline (pipeline_of x' host) (failed_pipeline (pipeline_of x host))
    (ap (map pipe_part) none_waits)
    (ap (λ z. map (place_of x') (drop (length (replies_from host (epoch host (s ∷ H)) (s ∷ H))) z)) none
    ∙ ap (map (place_of x')) (drop-nil {A = Part} (length (replies_from host (epoch host (s ∷ H)) (s ∷ H)))))
    next
    (ap length none)

-- nothing waits any more, and nothing flies
pub pipelines-failed : (S : Setting) (H : History) (pass host e t : ℕ) (kind : Kind) (answer : Answer)
    → pipelines_of S (past S (record { pass = pass; event = Failed host e kind t; answer = answer } ∷ H)) ≡ with_pipeline failed_pipeline host (pipelines_of S (past S H))
pipelines-failed S H pass host e t kind answer =
    let x = past S H in
    let s : Step = record { pass = pass; event = Failed host e kind t; answer = answer } in
    sym (changed_at-table (pipeline_of x) (pipeline_of (after S s x)) failed_pipeline (hosts S) host
    (λ l. failed_at S H s host (eq-eqb host host refl) refl (fault_empties S H host pass e t kind answer))
    (λ j l q. let d = differs j host q in sym (pipeline_stays S x s j (record {
      is_no_fault = d;
      sends_none = λ k. refl;
      brings_none = λ k. refl;
      closes_none = λ c. refl;
      same_waiting = waiting_stays S x s j d refl (λ c. refl) refl;
    }))))

-- CLOSED

eqb_swap : (a b : ℕ) → (a == b) ≡ (b == a)
eqb_swap a b = elim (cases_Bool (a == b)) [
  | inl t ↦ t ∙ sym (eqb_sym a b t)
  | inr f ↦ f ∙ sym (ne_eqb b a (λ e. both_ways (a == b) f (eq-eqb a b (sym e))))
]

kept_piped : (c : ℕ) (ps : List Part) → map pipe_part (filter (λ (q : Part). not (c == q.conn)) ps) ≡ filter (is_kept c) (map pipe_part ps)
kept_piped c [] = refl
kept_piped c (p ∷ ps) = elim (cases_Bool (c == p.conn)) [
  | inl t ↦ rw (← eqb_swap c p.conn, t) (kept_piped c ps)
  | inr f ↦ rw (← eqb_swap c p.conn, f) (ap (λ z. pipe_part p ∷ z) (kept_piped c ps))
]

place_later : (a b c : Bool) (o : Owner) → a ≡ c → (if (a || b) then None else Some o) ≡ (if b then None else (if c then None else Some o))
place_later true true c o e = refl
place_later true false c o e = rw (← e) refl
place_later false true c o e = refl
place_later false false c o e = rw (← e) refl

forgets : (c : ℕ) (b : Bool) (o : Owner) → forgotten_owner c (if b then None else Some o) ≡ (if b then None else (if o.conn == c then None else Some o))
forgets c true o = refl
forgets c false o = refl

place_forgotten : (S : Setting) (x : Past) (s : Step) (conn : ℕ) (p : Part) → s.event ≡ Closed conn → place_of (after S s x) p ≡ forgotten_owner conn (place_of x p)
place_forgotten S x s conn p e =
    let closes : is_closing p.conn s.event ≡ (p.conn == conn) = ap (is_closing p.conn) e ∙ eqb_swap conn p.conn in
    place_later (is_closing p.conn s.event) (is_closed p.conn x.steps) (p.conn == conn) (owner_of_part p) closes
    ∙ sym (forgets conn (is_closed p.conn x.steps) (owner_of_part p))

closed_at : (S : Setting) (x : Past) (pass conn : ℕ) (answer : Answer) (h : ℕ)
    → pipeline_of (after S (record { pass = pass; event = Closed conn; answer = answer }) x) h ≡ without_connection conn (pipeline_of x h)
closed_at S x pass conn answer h =
    let s : Step = record { pass = pass; event = Closed conn; answer = answer } in
    let x' = after S s x in
    let e = epoch h x.steps in
    let same_sent : sent_to h e x' ≡ sent_to h e x = rw (append-nil x.sent) refl in
    let same_came : replies_from h e (s ∷ x.steps) ≡ replies_from h e x.steps = append-nil (replies_from h e x.steps) in
    let flown = drop (length (replies_from h e x.steps)) (sent_to h e x) in
    same_pipeline (pipeline_of x' h) (without_connection conn (pipeline_of x h))
    (ap (map pipe_part) (after_closed S h pass conn answer x) ∙ kept_piped conn (waiting_parts h x))
    (ap (λ z. map (place_of x') (drop (length z) (sent_to h e x'))) same_came
    ∙ ap (λ z. map (place_of x') (drop (length (replies_from h e x.steps)) z)) same_sent
    ∙ same_values (place_of x') (λ (p : Part). forgotten_owner conn (place_of x p)) (λ p. place_forgotten S x s conn p refl) flown
    ∙ sym (map-map (forgotten_owner conn) (place_of x) flown))
    refl
    (ap length same_sent)

-- each pipeline forgets the connection
pub pipelines-closed : (S : Setting) (H : History) (pass conn : ℕ) (answer : Answer)
    → pipelines_of S (past S (record { pass = pass; event = Closed conn; answer = answer } ∷ H)) ≡ map (without_connection conn) (pipelines_of S (past S H))
pipelines-closed S H pass conn answer =
    let x = past S H in
    let s : Step = record { pass = pass; event = Closed conn; answer = answer } in
    map-same (pipeline_of (after S s x)) (λ h. without_connection conn (pipeline_of x h)) (range_with_len 0 (hosts S)) (closed_at S x pass conn answer)
    ∙ sym (map-map (without_connection conn) (pipeline_of x) (range_with_len 0 (hosts S)))

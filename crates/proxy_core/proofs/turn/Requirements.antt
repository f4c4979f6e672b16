-- What the turns of a machine ask for holds where its history determines what it keeps.
use Rattle.std.proofs.Common.{◌≡◌, ℕ, suc, ◌+◌, ◌-◌, ◌≤◌, ◌<◌, true, false, nat_lt, nat_le, ◌==◌, List, [], ◌∷◌, length, Option, Some, None, refl, sym, ap, ◌∙◌, subst, inl, inr, arith}
use Rattle.std.specs.Prelude.{◌&&◌, is_some, IfSome, IsTrue}
use Rattle.std.proofs.lemmas.Bool.{cases_Bool, ltb-true, leb-true, leb-false, lt-leb, and_parts, eq-eqb, eqb-true}
use Rattle.list_lemmas.proofs.CallerLemmas.{slice_get-past_range}
use Rattle.resp_core.specs.Tree.{Tree, is_plain_tree}
use Rattle.resp_core.specs.Value.{tree_of}
use Rattle.resp_core.specs.declared.value.Value.TheVariants.{NullBulk}
use Rattle.upstream_pipe.specs.declared.part.Owner.{Owner}
use Rattle.proxy_history.specs.Setting.{Setting, hosts, max_steps, max_payload}
use Rattle.proxy_history.specs.History.{History, times, openings, epoch, handed_count, is_open, is_any_closing}
use Rattle.proxy_history.specs.Part.{Past}
use Rattle.proxy_history.specs.Past.{past}
use Rattle.proxy_history.specs.Waiting.{waiting_parts, flying_count}
use Rattle.proxy_history.specs.Value.{upstream_failure}
use Rattle.proxy_history.specs.Outcome.{outcome}
use Rattle.proxy_history.specs.Payload.{payload, payload_of}
use Rattle.proxy_history.specs.Cause.{own_cause, is_ready}
use Rattle.proxy_history.specs.Legal.{IsLegal}
use Rattle.proxy_history.specs.declared.event.Event.TheVariants.{Answered}
use Rattle.proxy_history.proofs.CallerLemmas.{times-length, IsPlainIfAny, IsPlainIfAny-outcome as outcome_is_plain}
use Rattle.proxy_core.specs.Connections.{AreAwaited, connections_of, connection_at, reply_in}
use Rattle.proxy_core.specs.Pipelines.{PipelineState, pipeline_of, pipelines_of, next_connection, next_owner, lost_owners, pipeline_at, no_pipeline}
use Rattle.proxy_core.specs.Core.{detector_state}
use Rattle.proxy_core.specs.Machine.{setting_in, memory_in, history_in, IsKept}
use Rattle.proxy_core.specs.Memory.{Memory}
use Rattle.proxy_core.specs.declared.state.connection.Connection.{Connection}
use Rattle.proxy_core.specs.declared.machine.Machine.{Machine}
use Rattle.proxy_core.proofs.connections.ConnectionsOfLemmas.{length-connections_of, connection_at-open, connection_at-not_open, front_reply-queue_of, is_some-reply_in}
use Rattle.proxy_core.proofs.connections.NextOwnerLemmas.{answered-awaited}
use Rattle.proxy_core.proofs.connections.LostOwnersLemmas.{failed-awaited}
use Rattle.proxy_core.proofs.pipelines.PipelinesOfLemmas.{length-pipelines_of, pipeline_at-pipelines_of, length-pipeline_waiting, length-pipeline_flying, sent_to-at_most, epoch-at_most}
use Rattle.proxy_core.proofs.turn.EventResults.{kept_connections, kept_closed, kept_pipelines, at_host}

-- COUNTS

-- a legal history has no more steps than a journal
pub steps-at_most : (S : Setting) (H : History) → IsLegal S H → length H ≤ max_steps
steps-at_most S [] legal = omega arith
steps-at_most S (s ∷ H) legal =
    let a = and_parts (nat_lt (length H) max_steps) (nat_le (payload H + payload_of s.event s.answer) max_payload) legal.1.has_room in
    omega (arith, ltb-true (length H) max_steps a.0)

pub asked_hosts : (m : Machine) → IsKept m → length m.pipelines.states ≡ hosts (setting_in m)
asked_hosts m kept = ap length (kept_pipelines m kept) ∙ length-pipelines_of (setting_in m) (past (setting_in m) (history_in m))

pub asked_closed : (m : Machine) → IsKept m → m.connections.closed + 1 < 18446744073709551616
asked_closed m kept = omega (arith, kept_closed m kept, times-length is_any_closing (history_in m), steps-at_most (setting_in m) (history_in m) kept.legal)

-- a pipeline is that of the history, or there is none
none_at : (S : Setting) (x : Past) (h : ℕ) → hosts S ≤ h → pipeline_at h (pipelines_of S x) ≡ no_pipeline
none_at S x h l = rw (slice_get-past_range (pipeline_of x) 0 (hosts S) h l) refl

pub at_any : (P : PipelineState → Type 0) (m : Machine) (h : ℕ) → IsKept m
    → (h < hosts (setting_in m) → P (pipeline_of (past (setting_in m) (history_in m)) h)) → P no_pipeline → P (pipeline_at h (memory_in m).pipelines)
at_any P m h kept f g =
    let S = setting_in m in
    let x = past S (history_in m) in
    subst (λ (z : List PipelineState). P (pipeline_at h z)) (sym (kept_pipelines m kept)) (elim (cases_Bool (nat_le (hosts S) h)) [
      | inl t ↦ subst P (sym (none_at S x h (leb-true (hosts S) h t))) g
      | inr n ↦ let l = leb-false (hosts S) h n in subst P (sym (pipeline_at-pipelines_of S x h l)) (f l)
    ])

pub asked_taken : (m : Machine) (h : ℕ) → IsKept m → (pipeline_at h (memory_in m).pipelines).taken + 1 < 18446744073709551616
asked_taken m h kept =
    let S = setting_in m in
    let H = history_in m in
    at_any (λ (p : PipelineState). p.taken + 1 < 18446744073709551616) m h kept
    (λ l. omega (arith, sent_to-at_most S H h (epoch h H), steps-at_most S H kept.legal)) (omega arith)

pub asked_epochs : (m : Machine) (h : ℕ) → IsKept m → (pipeline_at h (memory_in m).pipelines).epoch < 18446744073709551615
asked_epochs m h kept =
    let S = setting_in m in
    let H = history_in m in
    at_any (λ (p : PipelineState). p.epoch < 18446744073709551615) m h kept
    (λ l. omega (arith, epoch-at_most h H, steps-at_most S H kept.legal)) (omega arith)

-- WHO IS AWAITED

-- a plain reply of the present epoch has no cause where something flies
answer_has_none : (S : Setting) (x : Past) (host : ℕ) → host < hosts S → (flying_count host x == 0) ≡ false → own_cause S x (Answered host (epoch host x.steps) NullBulk 0) ≡ None
answer_has_none S x host l f =
    let a : nat_le (hosts S) host ≡ false = lt-leb (hosts S) host l in
    rw (a, eq-eqb (epoch host x.steps) (epoch host x.steps) refl, f) refl

-- one owner is awaited whatever value comes
any_value : (places : List (Option Owner)) (v w : Tree) (connections : List (Option Connection)) → AreAwaited (next_owner places) v connections → AreAwaited (next_owner places) w connections
any_value [] v w connections h = tt
any_value (None ∷ places) v w connections h = tt
any_value (Some o ∷ places) v w connections h = (h.0, tt)

empty_flies : (places : List (Option Owner)) (v : Tree) (connections : List (Option Connection)) → (length places == 0) ≡ true → AreAwaited (next_owner places) v connections
empty_flies [] v connections e = tt
empty_flies (o ∷ places) v connections e = absurd (some_left (length places) e)
  where
    some_left : (n : ℕ) → (suc n == 0) ≡ true → ⊥
    some_left n e = omega (arith, eqb-true (suc n) 0 e)

answered_here : (S : Setting) (H : History) (h : ℕ) (v : Tree) → IsLegal S H → h < hosts S → AreAwaited (next_owner (pipeline_of (past S H) h).flying) v (connections_of (past S H))
answered_here S H h v legal l =
    let x = past S H in
    let places = (pipeline_of x h).flying in
    elim (cases_Bool (flying_count h x == 0)) [
      | inl t ↦ empty_flies places v (connections_of x) (ap (λ z. z == 0) (length-pipeline_flying x h) ∙ t)
      | inr f ↦ any_value places (tree_of NullBulk) v (connections_of x) (answered-awaited S H h (epoch h H) 0 NullBulk legal (answer_has_none S x h l f))
    ]

pub asked_answer : (m : Machine) (h : ℕ) (v : Tree) → IsKept m → AreAwaited (next_owner (pipeline_at h (memory_in m).pipelines).flying) v m.connections.numbered
asked_answer m h v kept =
    let S = setting_in m in
    let H = history_in m in
    subst (λ (z : List (Option Connection)). AreAwaited (next_owner (pipeline_at h (memory_in m).pipelines).flying) v z) (sym (kept_connections m kept))
    (at_any (λ (p : PipelineState). AreAwaited (next_owner p.flying) v (connections_of (past S H))) m h kept (λ l. answered_here S H h v kept.legal l) tt)

pub asked_fault : (m : Machine) (h : ℕ) → IsKept m → AreAwaited (lost_owners (pipeline_at h (memory_in m).pipelines)) upstream_failure m.connections.numbered
asked_fault m h kept =
    let S = setting_in m in
    let H = history_in m in
    subst (λ (z : List (Option Connection)). AreAwaited (lost_owners (pipeline_at h (memory_in m).pipelines)) upstream_failure z) (sym (kept_connections m kept))
    (at_any (λ (p : PipelineState). AreAwaited (lost_owners p) upstream_failure (connections_of (past S H))) m h kept (λ l. failed-awaited S H h kept.legal) tt)

-- PLAIN REPLIES

plain_reply : (o : Option Tree) → IsPlainIfAny o → IfSome o (λ v. IsTrue (is_plain_tree v))
plain_reply None h = tt
plain_reply (Some v) h = h

reply_here : (S : Setting) (H : History) (c : ℕ) → IsLegal S H → IfSome (reply_in (connection_at c (connections_of (past S H)))) (λ v. IsTrue (is_plain_tree v))
reply_here S H c legal =
    let x = past S H in
    elim (cases_Bool (is_open c H)) [
      | inl t ↦ subst (λ (z : Option Connection). IfSome (reply_in z) (λ v. IsTrue (is_plain_tree v))) (sym (connection_at-open x c t))
          (subst (λ (z : Option Tree). IfSome z (λ v. IsTrue (is_plain_tree v))) (sym (front_reply-queue_of x c))
          (plain_reply (outcome c (handed_count c H) x) (outcome_is_plain S H legal c (handed_count c H))))
      | inr f ↦ subst (λ (z : Option Connection). IfSome (reply_in z) (λ v. IsTrue (is_plain_tree v))) (sym (connection_at-not_open x c f)) tt
    ]

pub asked_reply : (m : Machine) (c : ℕ) → IsKept m → IfSome (reply_in (connection_at c m.connections.numbered)) (λ v. IsTrue (is_plain_tree v))
asked_reply m c kept =
    subst (λ (z : List (Option Connection)). IfSome (reply_in (connection_at c z)) (λ v. IsTrue (is_plain_tree v))) (sym (kept_connections m kept))
    (reply_here (setting_in m) (history_in m) c kept.legal)

-- ONE PIPELINE

-- its epoch is that of the history
pub epoch_is : (m : Machine) (h : ℕ) → IsKept m → h < hosts (setting_in m) → (pipeline_at h m.pipelines.states).epoch ≡ epoch h (history_in m)
epoch_is m h kept l = ap (λ (q : PipelineState). q.epoch) (at_host m h kept l)

-- its parts that wait and fly are those of the history
pub waiting_is : (m : Machine) (h : ℕ) → IsKept m → h < hosts (setting_in m)
    → length (pipeline_at h m.pipelines.states).waiting ≡ length (waiting_parts h (past (setting_in m) (history_in m)))
waiting_is m h kept l =
    ap (λ (q : PipelineState). length q.waiting) (at_host m h kept l) ∙ length-pipeline_waiting (past (setting_in m) (history_in m)) h

pub flying_is : (m : Machine) (h : ℕ) → IsKept m → h < hosts (setting_in m)
    → length (pipeline_at h m.pipelines.states).flying ≡ flying_count h (past (setting_in m) (history_in m))
flying_is m h kept l =
    ap (λ (q : PipelineState). length q.flying) (at_host m h kept l) ∙ length-pipeline_flying (past (setting_in m) (history_in m)) h

-- the connection of its next reply is that of the history
pub next_connection_is : (m : Machine) (h : ℕ) → IsKept m → h < hosts (setting_in m)
    → next_connection (pipeline_at h m.pipelines.states).flying ≡ next_connection (pipeline_of (past (setting_in m) (history_in m)) h).flying
next_connection_is m h kept l = ap (λ (q : PipelineState). next_connection q.flying) (at_host m h kept l)

-- ONE CONNECTION

-- it has a reply in front where the history has its next reply
pub reply_is : (m : Machine) (c : ℕ) → IsKept m
    → is_some (reply_in (connection_at c m.connections.numbered)) ≡ (is_open c (history_in m) && is_ready c (past (setting_in m) (history_in m)))
reply_is m c kept =
    ap (λ (z : List (Option Connection)). is_some (reply_in (connection_at c z))) (kept_connections m kept)
    ∙ is_some-reply_in (past (setting_in m) (history_in m)) c

-- ALL CONNECTIONS

-- as many connections are open as the history has open
pub open_is : (m : Machine) → IsKept m
    → length m.connections.numbered - m.connections.closed ≡ openings (history_in m) - times is_any_closing (history_in m)
open_is m kept =
    let opened : length m.connections.numbered ≡ openings (history_in m) =
    ap length (kept_connections m kept) ∙ length-connections_of (past (setting_in m) (history_in m)) in
    omega (arith, opened, kept_closed m kept)

-- what outlier detection knows is what the history determines
pub asked_detection : (m : Machine) → IsKept m → m.ejector.state ≡ detector_state (record { setting = setting_in m; steps = m.journal.steps })
asked_detection m kept = ap (λ (z : Memory). z.hosts) kept.memory

-- What a command's parts got, as places say it; and what a kept machine tells of an arrival.
use Rattle.std.proofs.Common.{◌≡◌, ℕ, ◌+◌, ◌-◌, ◌^◌, ◌<◌, ◌≤◌, Bool, true, false, not, nat_le, nat_lt, List, [], ◌∷◌, ◌++◌, length, map, count_by, Option, Some, None, is_some, cond, refl, sym, ap, ◌∙◌, subst, inl, inr, arith, if◌then◌else◌}
use Rattle.std.proofs.lemmas.Bool.{cases_Bool, ltb-true, ltb-false, leb-true, leb-false}
use Rattle.std.proofs.lemmas.List.{length-map, length-reverse}
use Rattle.std.proofs.lemmas.List.Sums.{sum_by-cons}
use Rattle.resp_core.specs.Tree.{Tree}
use Rattle.splitter.specs.Plan.{Plan, here, leave, parts, is_last}
use Rattle.splitter.specs.declared.plans.Join.{Join}
use Rattle.splitter.specs.declared.plans.PartPlan.{PartPlan}
use Rattle.splitter.specs.declared.request.Request.{Request}
use Rattle.proxy_history.specs.Setting.{Setting, hosts, max_waiting, max_unwritten, max_steps, max_payload}
use Rattle.proxy_history.specs.History.{accepted_count, plan_for}
use Rattle.proxy_history.specs.Part.{Part, Past}
use Rattle.proxy_history.specs.Past.{past}
use Rattle.proxy_history.specs.Arrival.{placed_by, parts_placed, placed_part, with_host, host_for, hostless, before_it, no_upstream_host, proxy_busy}
use Rattle.proxy_history.specs.Answer.{accepts, local_of, is_hostless, is_busy}
use Rattle.proxy_history.specs.Payload.{length_of_request}
use Rattle.proxy_history.specs.Cause.{causes, own_cause}
use Rattle.proxy_history.specs.declared.event.Event.TheVariants.{Arrived}
use Rattle.proxy_history.proofs.CallerLemmas.{AreOf, AreOf-placing_first as are_placed, MayJoin-plan_for as plan_may_join, first_true-none as are_false}
use Rattle.proxy_core.specs.Places.{place_by, placed_as, value_at, value_of_placed, is_without_host, is_too_many}
use Rattle.proxy_core.specs.Pipelines.{PipelineState, pushed_part, pushed_parts, pipeline_at}
use Rattle.proxy_core.specs.Memory.{Memory}
use Rattle.proxy_core.specs.Machine.{setting_in, memory_in, history_in, own_cause_in, IsKept, IsReady}
use Rattle.proxy_core.specs.Connections.{with_connection, connection_with_command, arrived_command, connection_at, MayAccept, next_index}
use Rattle.proxy_core.specs.declared.state.connection.Connection.{Connection}
use Rattle.proxy_core.specs.declared.machine.Machine.{Machine}
use Rattle.proxy_core.specs.declared.state.place.Placed.{Placed}
use Rattle.proxy_core.specs.Arrivals.{pushed_at, pushed_all, piped_as, Tells, MayJoinAll, HasAccepted, IsAccepted, answer_of, with_arrival}
use Rattle.proxy_core.specs.declared.state.place.Accepted.{Accepted}
use Rattle.proxy_core.proofs.parts.FewParts.{few_parts}
use Rattle.proxy_core.proofs.connections.ConnectionsOfLemmas.{open_connection, connection_at-open, length-queue_of, popped_and_left, cause_in-arrived}
use Rattle.proxy_core.proofs.connections.ConnectionCounts.{arrived_open, accepted-at_most}
use Rattle.proxy_core.proofs.pipelines.PipelinesOfLemmas.{length-pipelines_of, pipeline_at-pipelines_of, length-pipeline_waiting}

-- VALUES

-- each part's value is the one that its place says
abbrev AreTold : List Part → Type 0
AreTold [] = Unit {0}
AreTold (p ∷ ps) = (value_of_placed (placed_as p) ≡ p.local) × AreTold ps

told_by : (b : Bool) (h : ℕ) → value_at (place_by (Some h) (if b then None else Some proxy_busy)) ≡ (if b then None else Some proxy_busy)
told_by true h = refl
told_by false h = refl

told_of : (x : Past) (placed : List Part) (host : Option ℕ) (p : Part) → p.host ≡ None → p.local ≡ Some no_upstream_host
    → value_of_placed (placed_as (with_host x placed host p)) ≡ (with_host x placed host p).local
told_of x placed None p n l = rw (n, l) refl
told_of x placed (Some h) p n l = told_by (nat_lt (before_it h x placed) max_waiting) h

told_more : (ps : List Part) (p : Part) → AreTold ps → value_of_placed (placed_as p) ≡ p.local → AreTold (ps ++ p ∷ [])
told_more [] p a e = (e, tt)
told_more (q ∷ ps) p a e = (a.0, told_more ps p a.1 e)

placing_is_told : (S : Setting) (x : Past) (conn command : ℕ) (placed : List Part) (list : List PartPlan) → AreTold placed → AreTold (parts_placed S x conn command placed list)
placing_is_told S x conn command placed [] a = a
placing_is_told S x conn command placed (p ∷ list) a =
    placing_is_told S x conn command (placed ++ placed_part S x conn command placed p ∷ []) list
    (told_more placed (placed_part S x conn command placed p) a (told_of x placed (host_for S x p.key) (hostless conn command (length placed) p) refl refl))

told_values : (ps : List Part) → AreTold ps → map value_of_placed (map placed_as ps) ≡ map (λ (p : Part). p.local) ps
told_values [] a = refl
told_values (p ∷ ps) a = rw (a.0, told_values ps a.1) refl

pub placed_values : (S : Setting) (x : Past) (conn command : ℕ) (list : List PartPlan)
    → map value_of_placed (map placed_as (parts_placed S x conn command [] list)) ≡ map (λ (p : Part). p.local) (parts_placed S x conn command [] list)
placed_values S x conn command list = told_values (parts_placed S x conn command [] list) (placing_is_told S x conn command [] list tt)

-- COUNTS

same_counts : (f : Part → Bool) (g : Placed → Bool) (ps : List Part) → ((p : Part) → g (placed_as p) ≡ f p) → count_by g (map placed_as ps) ≡ count_by f ps
same_counts f g [] e = refl
same_counts f g (p ∷ ps) e =
    sum_by-cons (λ q. cond (g q) 1 0) (placed_as p) (map placed_as ps)
    ∙ ap (λ n. cond (g (placed_as p)) 1 0 + n) (same_counts f g ps e)
    ∙ ap (λ b. cond b 1 0 + count_by f ps) (e p)
    ∙ sym (sum_by-cons (λ q. cond (f q) 1 0) p ps)

no_host_is : (host : Option ℕ) (local : Option Tree) → is_without_host (place_by host local) ≡ not (is_some host)
no_host_is None v = refl
no_host_is (Some h) None = refl
no_host_is (Some h) (Some v) = refl

too_many_is : (host : Option ℕ) (local : Option Tree) → is_too_many (place_by host local) ≡ (if is_some host then is_some local else false)
too_many_is None v = refl
too_many_is (Some h) None = refl
too_many_is (Some h) (Some v) = refl

pub hostless_count : (ps : List Part) → count_by (λ (p : Placed). is_without_host p.place) (map placed_as ps) ≡ count_by is_hostless ps
hostless_count ps = same_counts is_hostless (λ (p : Placed). is_without_host p.place) ps (λ p. no_host_is p.host p.local)

pub busy_count : (ps : List Part) → count_by (λ (p : Placed). is_too_many p.place) (map placed_as ps) ≡ count_by is_busy ps
busy_count ps = same_counts is_busy (λ (p : Placed). is_too_many p.place) ps (λ p. too_many_is p.host p.local)

-- PUSHES

pushed_by : (conn command : ℕ) (p : Part) (host : Option ℕ) (local : Option Tree) (pipelines : List PipelineState) → p.host ≡ host → p.local ≡ local
    → p.conn ≡ conn → p.command ≡ command → pushed_at (place_by host local) (piped_as conn command (placed_as p)) pipelines ≡ pushed_part p pipelines
pushed_by conn command p None None pipelines e f a b = rw (e, f) refl
pushed_by conn command p None (Some v) pipelines e f a b = rw (e, f) refl
pushed_by conn command p (Some h) (Some v) pipelines e f a b = rw (e, f) refl
pushed_by conn command p (Some h) None pipelines e f a b = rw (e, f, ← a, ← b) refl

pub pushed_as_parts : (conn command : ℕ) (ps : List Part) (pipelines : List PipelineState) → AreOf conn command ps
    → pushed_all conn command (map placed_as ps) pipelines ≡ pushed_parts ps pipelines
pushed_as_parts conn command [] pipelines a = refl
pushed_as_parts conn command (p ∷ ps) pipelines (of_conn, of_command, others) =
    ap (pushed_all conn command (map placed_as ps)) (pushed_by conn command p p.host p.local pipelines refl refl of_conn of_command)
    ∙ pushed_as_parts conn command ps (pushed_part p pipelines) others

-- A KEPT MACHINE

pub kept_pipelines : (m : Machine) → IsKept m → length m.pipelines.states ≡ hosts (setting_in m)
kept_pipelines m k =
    ap (λ (z : Memory). length z.pipelines) k.memory ∙ length-pipelines_of (setting_in m) (past (setting_in m) (history_in m))

pub kept_cause : (m : Machine) (conn : ℕ) (request : Request) → IsKept m → own_cause_in (setting_in m) (memory_in m) (Arrived conn request) ≡ None
    → own_cause (setting_in m) (past (setting_in m) (history_in m)) (Arrived conn request) ≡ None
kept_cause m conn request k e =
    sym (ap (λ z. own_cause_in (setting_in m) z (Arrived conn request)) k.memory ∙ cause_in-arrived (setting_in m) (history_in m) conn request) ∙ e

kept_connection : (m : Machine) (conn : ℕ) (request : Request) → IsKept m → own_cause_in (setting_in m) (memory_in m) (Arrived conn request) ≡ None
    → connection_at conn m.connections.numbered ≡ Some (open_connection (past (setting_in m) (history_in m)) conn)
kept_connection m conn request k e =
    let x = past (setting_in m) (history_in m) in
    ap (λ (z : Memory). connection_at conn z.connections) k.memory
    ∙ connection_at-open x conn (arrived_open (setting_in m) x conn request (kept_cause m conn request k e))

pub kept_accepts : (m : Machine) (conn : ℕ) (request : Request) → IsKept m → own_cause_in (setting_in m) (memory_in m) (Arrived conn request) ≡ None
    → length m.journal.steps < 2 ^ 64 - 1 → MayAccept (connection_at conn m.connections.numbered)
kept_accepts m conn request k e few =
    let S = setting_in m in
    let H = history_in m in
    let x = past S H in
    let (_, (_, (left_some, _))) = are_false (causes S x (Arrived conn request)) (kept_cause m conn request k e) in
    record {
      connection = open_connection x conn;
      is_open = kept_connection m conn request k e;
      left = omega (arith, length-queue_of x conn, leb-false max_unwritten _ left_some);
      index = omega (arith, popped_and_left S H conn k.legal, accepted-at_most conn H, length-reverse m.journal.steps, few);
    }

pub kept_tells : (m : Machine) (conn : ℕ) (request : Request) → IsKept m → own_cause_in (setting_in m) (memory_in m) (Arrived conn request) ≡ None
    → Tells (setting_in m) (memory_in m) conn (past (setting_in m) (history_in m))
kept_tells m conn request k e =
    let S = setting_in m in
    let H = history_in m in
    let x = past S H in
    record {
      state_is = ap (λ (z : Memory). z.hosts) k.memory;
      waiting_are = λ h l. ap (λ (z : Memory). length (pipeline_at h z.pipelines).waiting) k.memory
          ∙ ap (λ (q : PipelineState). length q.waiting) (pipeline_at-pipelines_of S x h l) ∙ length-pipeline_waiting x h;
      index_is = λ c is.
          let same : Some c ≡ Some (open_connection x conn) = sym is ∙ kept_connection m conn request k e in
          ap (λ o. next_index o) same ∙ popped_and_left S H conn k.legal;
    }

-- A COMMAND OF PARTS

pub accepted_as : (ps : List Part) (placed : List Placed) (index n : ℕ) → placed ≡ map placed_as ps → index ≡ n
    → answer_of (record { index = index; local = None; parts = length placed; no_host = count_by (λ (p : Placed). is_without_host p.place) placed; busy = count_by (λ (p : Placed). is_too_many p.place) placed })
    ≡ accepts n None ps
accepted_as ps placed index n e f = rw (e, f, length-map ps placed_as, hostless_count ps, busy_count ps) refl

pub list_accepted : (old : Machine) (connections : List (Option Connection)) (pipelines : List PipelineState) (conn index : ℕ) (how : Join) (list : List PartPlan) (x : Past) (placed : List Placed)
    → index ≡ accepted_count conn x.steps → placed ≡ map placed_as (parts_placed (setting_in old) x conn (accepted_count conn x.steps) [] list)
    → connections ≡ with_connection (connection_with_command (record { how = how; values = map value_of_placed placed }) false) conn old.connections.numbered
    → pipelines ≡ pushed_all conn index placed old.pipelines.states
    → record (memory_in old) { connections = connections; pipelines = pipelines } ≡ with_arrival old conn (parts how list) x
list_accepted old connections pipelines conn index how list x placed e f g h =
    let S = setting_in old in
    let ps = parts_placed S x conn (accepted_count conn x.steps) [] list in
    let values : map value_of_placed placed ≡ map (λ (p : Part). p.local) ps = ap (map value_of_placed) f ∙ placed_values S x conn (accepted_count conn x.steps) list in
    let its : connections ≡ with_connection (connection_with_command (record { how = how; values = map (λ (p : Part). p.local) ps }) false) conn old.connections.numbered =
    g ∙ ap (λ z. with_connection (connection_with_command (record { how = how; values = z }) false) conn old.connections.numbered) values in
    let pushed : pipelines ≡ pushed_parts ps old.pipelines.states =
    h ∙ ap (λ z. pushed_all conn z placed old.pipelines.states) e ∙ ap (λ z. pushed_all conn (accepted_count conn x.steps) z old.pipelines.states) f
    ∙ pushed_as_parts conn (accepted_count conn x.steps) ps old.pipelines.states (are_placed S x conn list) in
    ap (λ z. record (memory_in old) { connections = z; pipelines = pipelines }) its
    ∙ ap (λ z. record (memory_in old) { connections = with_connection (connection_with_command (record { how = how; values = map (λ (p : Part). p.local) ps }) false) conn old.connections.numbered; pipelines = z }) pushed

-- the index that the next command gets is the one that the history gives it
pub index_told : (S : Setting) (m : Memory) (conn : ℕ) (x : Past) → Tells S m conn x → MayAccept (connection_at conn m.connections) → next_index (connection_at conn m.connections) ≡ accepted_count conn x.steps
index_told S m conn x tells may = ap next_index may.is_open ∙ tells.index_is may.connection may.is_open

-- once the parts that are to wait do, the command is accepted
pub pushed-accepted : (old ready new : Machine) (conn : ℕ) (how : Join) (list : List PartPlan) (x : Past) (placed : List Placed) (a : Accepted)
    → HasAccepted old ready conn how placed a → Tells (setting_in old) (memory_in old) conn x → MayAccept (connection_at conn old.connections.numbered)
    → placed ≡ map placed_as (parts_placed (setting_in old) x conn (accepted_count conn x.steps) [] list)
    → new.pipelines.states ≡ pushed_all conn a.index placed ready.pipelines.states → setting_in new ≡ setting_in ready → new.journal.steps ≡ ready.journal.steps
    → new.journal.records ≡ ready.journal.records → memory_in new ≡ record (memory_in ready) { pipelines = new.pipelines.states } → IsAccepted old new conn (parts how list) x a
pushed-accepted old ready new conn how list x placed a h tells may are pushed setting steps records memory =
    let told = index_told (setting_in old) (memory_in old) conn x tells may in
    let index : a.index ≡ accepted_count conn x.steps = ap (λ (z : Accepted). z.index) h.answer_is ∙ told in
    let pushes : new.pipelines.states ≡ pushed_all conn a.index placed old.pipelines.states = pushed ∙ ap (pushed_all conn a.index placed) h.waiting in
    record {
      answer_is = ap answer_of h.answer_is ∙ accepted_as (parts_placed (setting_in old) x conn (accepted_count conn x.steps) [] list) placed _ _ are told;
      setting = setting ∙ h.setting;
      steps = steps ∙ h.steps;
      records = records ∙ h.records;
      memory = memory
          ∙ (λ i. record { bytes = h.bytes i; connections = ready.connections.numbered; closed = h.closed i; pipelines = new.pipelines.states; hosts = h.hosts i })
          ∙ list_accepted old ready.connections.numbered new.pipelines.states conn a.index how list x placed index are h.connections pushes;
    }

-- ONCE ROOM WAS MADE

small_enough : (old new : Machine) (conn : ℕ) (request : Request) → IsReady old new (Arrived conn request) → (length old.journal.steps < max_steps) × (length_of_request request ≤ max_payload)
small_enough old new conn request r = (
  elim (cases_Bool (nat_lt (length old.journal.steps) max_steps)) [
    | inl t ↦ ltb-true _ max_steps t
    | inr f ↦ absurd (r.has_room (inl (ltb-false _ max_steps f)))
  ],
  elim (cases_Bool (nat_le (length_of_request request) max_payload)) [
    | inl t ↦ leb-true _ max_payload t
    | inr f ↦ let l = leb-false (length_of_request request) max_payload f in absurd (r.has_room (inr (omega (arith, l))))
  ],
)

join_by_plan : (plan : Plan) (request : Request) → plan ≡ plan_for request → length_of_request request ≤ max_payload → MayJoinAll plan
join_by_plan (here name value) request e l = tt
join_by_plan (leave name value) request e l = tt
join_by_plan (parts how list) request e l = (plan_may_join request how list (sym e), omega (arith, few_parts request how list (sym e), l))

-- the parts of the plan may be joined and numbered
pub may_join_all : (old new : Machine) (conn : ℕ) (request : Request) (plan : Plan) → plan ≡ plan_for request → IsReady old new (Arrived conn request) → MayJoinAll plan
may_join_all old new conn request plan e r = join_by_plan plan request e (small_enough old new conn request r).1

pub ready_accepts : (old new : Machine) (conn : ℕ) (request : Request) → IsKept old → IsReady old new (Arrived conn request) → MayAccept (connection_at conn new.connections.numbered)
ready_accepts old new conn request k r =
    let same : old.connections.numbered ≡ new.connections.numbered = sym (ap (λ (z : Memory). z.connections) r.same.memory) in
    subst (λ z. MayAccept (connection_at conn z)) same
    (kept_accepts old conn request k r.has_no_cause (omega (arith, (small_enough old new conn request r).0)))

pub ready_pipelines : (old new : Machine) (conn : ℕ) (request : Request) → IsKept old → IsReady old new (Arrived conn request) → length new.pipelines.states ≡ hosts (setting_in new)
ready_pipelines old new conn request k r =
    ap (λ (z : Memory). length z.pipelines) r.same.memory
    ∙ kept_pipelines old k ∙ sym (ap hosts r.same.setting)

pub ready_tells : (old new : Machine) (conn : ℕ) (request : Request) → IsKept old → IsReady old new (Arrived conn request)
    → Tells (setting_in new) (memory_in new) conn (past (setting_in old) (history_in old))
ready_tells old new conn request k r =
    subst (λ S. Tells S (memory_in new) conn (past (setting_in old) (history_in old))) (sym r.same.setting)
    (subst (λ z. Tells (setting_in old) z conn (past (setting_in old) (history_in old))) (sym r.same.memory) (kept_tells old conn request k r.has_no_cause))

-- what is kept after the arrival, by what was kept before
abbrev arrival_of : Setting → Memory → ℕ → Plan → Past → Memory
arrival_of S m conn plan x =
    let placed = placed_by S x conn plan in
    record m {
      connections = with_connection (connection_with_command (arrived_command plan placed) (is_last plan)) conn m.connections;
      pipelines = pushed_parts placed m.pipelines;
    }

-- what is accepted then is accepted of the machine before
pub accepted_before : (old ready new : Machine) (conn : ℕ) (request : Request) (plan : Plan) (x : Past) (a : Accepted) → plan ≡ plan_for request → IsReady old ready (Arrived conn request)
    → IsAccepted ready new conn plan x a → IsAccepted old new conn (plan_for request) x a
accepted_before old ready new conn request plan x a e r is =
    let same = r.same in
    let arrived : with_arrival ready conn plan x ≡ with_arrival old conn (plan_for request) x =
    ap (λ p. with_arrival ready conn p x) e
    ∙ ap (λ S. arrival_of S (memory_in ready) conn (plan_for request) x) same.setting
    ∙ ap (λ z. arrival_of (setting_in old) z conn (plan_for request) x) same.memory in
    record {
      answer_is = is.answer_is ∙ ap (λ p. accepts (accepted_count conn x.steps) (local_of p) (placed_by (setting_in ready) x conn p)) e
          ∙ ap (λ S. accepts (accepted_count conn x.steps) (local_of (plan_for request)) (placed_by S x conn (plan_for request))) same.setting;
      setting = is.setting ∙ same.setting;
      steps = is.steps ∙ same.steps;
      records = is.records ∙ same.records;
      memory = is.memory ∙ arrived;
    }

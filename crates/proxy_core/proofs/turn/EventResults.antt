-- What each event comes to where it is answered.
use Rattle.std.proofs.Common.{◌≡◌, ℕ, ◌+◌, ◌<◌, List, [], ◌∷◌, ◌++◌, map, length, Some, sym, ap, ◌∙◌}
use Rattle.resp_core.specs.Value.{tree_of}
use Rattle.resp_core.specs.declared.value.Value.{Value}
use Rattle.splitter.specs.declared.request.Request.{Request}
use Rattle.splitter.specs.Plan.{is_last}
use Rattle.ejector.specs.declared.mark.Mark.{Mark}
use Rattle.ejector.specs.declared.mark.Mark.TheVariants as mark
use Rattle.ejector.specs.State.{State}
use Rattle.ejector.specs.Ejection.{state, trip, sweep_answer}
use Rattle.proxy_history.specs.Setting.{Setting, hosts}
use Rattle.proxy_history.specs.History.{times, is_any_closing, plan_for, epoch}
use Rattle.proxy_history.specs.Part.{Past}
use Rattle.proxy_history.specs.Past.{past}
use Rattle.proxy_history.specs.Marks.{mark_by, mark_of_fault}
use Rattle.proxy_history.specs.Waiting.{waiting_parts, flying_count, sent_to}
use Rattle.proxy_history.specs.Arrival.{parts_by}
use Rattle.proxy_history.specs.Value.{upstream_failure}
use Rattle.proxy_history.specs.Answer.{answer_to, counts_of, text_of_first, trip_by}
use Rattle.proxy_history.specs.declared.answer.Answer.{Answer}
use Rattle.proxy_history.specs.declared.answer.Answer.TheVariants as answers
use Rattle.proxy_history.specs.declared.event.Event.TheVariants.{Opened, Arrived, Finished, Taken, Answered, Failed, Swept, Handed, Closed}
use Rattle.proxy_history.specs.declared.event.Kind.{Kind}
use Rattle.proxy_history.proofs.CallerLemmas.{HasHost-own_cause as has_host}
use Rattle.proxy_core.specs.Connections.{connections_of, fresh_connection, with_connection, finished_connection, connections_without, connection_without_front, answered_parts, connection_with_command, arrived_command}
use Rattle.proxy_core.specs.Pipelines.{PipelineState, pipeline_of, pipelines_of, without_connection, with_pipeline, taken_from, answered_by, next_owner, failed_pipeline, lost_owners, pushed_parts, pipeline_at, text_of_oldest}
use Rattle.proxy_core.specs.Memory.{Memory}
use Rattle.proxy_core.specs.Machine.{setting_in, memory_in, history_in, text_in, fault_mark, IsKept}
use Rattle.proxy_core.specs.Core.{IsMade}
use Rattle.proxy_core.specs.declared.machine.Machine.{Machine}
use Rattle.proxy_core.proofs.connections.ConnectionCounts.{handed_open}
use Rattle.proxy_core.proofs.connections.ConnectionsOfLemmas.{length-connections_of, text_in-handed}
use Rattle.proxy_core.proofs.connections.ConnectionEvents.{connections-opened, connections-finished, connections-handed, connections-closed}
use Rattle.proxy_core.proofs.connections.UnchangedConnections.{connections-swept, connections-taken}
use Rattle.proxy_core.proofs.pipelines.PipelineEvents.{pipelines-opened, pipelines-finished, pipelines-swept, pipelines-handed, pipelines-closed, pipelines-answered, pipelines-failed}
use Rattle.proxy_core.proofs.turn.IsMadeLemmas.{IsTurned, made, no_cause, taken_has_host}
use Rattle.proxy_core.proofs.connections.NextOwnerLemmas.{connections-answered}
use Rattle.proxy_core.proofs.connections.ArrivedCommandLemmas.{connections-arrived}
use Rattle.proxy_core.proofs.connections.LostOwnersLemmas.{connections-failed}
use Rattle.proxy_core.proofs.pipelines.TakenFromLemmas.{pipelines-taken}
use Rattle.proxy_core.proofs.pipelines.PushedPartsLemmas.{pipelines-arrived}
use Rattle.proxy_core.proofs.pipelines.PipelinesOfLemmas.{pipeline_at-pipelines_of, text_of_oldest-pipeline, length-pipeline_waiting, length-pipeline_flying}

-- WHAT IS KEPT

pub kept_connections : (m : Machine) → IsKept m → m.connections.numbered ≡ connections_of (past (setting_in m) (history_in m))
kept_connections m kept = ap (λ (z : Memory). z.connections) kept.memory

pub kept_closed : (m : Machine) → IsKept m → m.connections.closed ≡ times is_any_closing (history_in m)
kept_closed m kept = ap (λ (z : Memory). z.closed) kept.memory

pub kept_pipelines : (m : Machine) → IsKept m → (memory_in m).pipelines ≡ pipelines_of (setting_in m) (past (setting_in m) (history_in m))
kept_pipelines m kept = ap (λ (z : Memory). z.pipelines) kept.memory

pub kept_hosts : (m : Machine) → IsKept m → m.ejector.state ≡ state m.ejector.rules m.opening.value.state (past (setting_in m) (history_in m)).marks
kept_hosts m kept = ap (λ (z : Memory). z.hosts) kept.memory

-- OPENED, FINISHED, CLOSED

pub opened-made : (old new : Machine) (pass : ℕ) (a : Answer) → IsKept old
    → (a ≡ answers.Opened (length old.connections.numbered))
    × IsTurned old new pass Opened a (record (memory_in old) { connections = old.connections.numbered ++ Some fresh_connection ∷ [] })
    → IsMade old new pass Opened a
opened-made old new pass a kept h =
    let S = setting_in old in
    let H = history_in old in
    made old new pass Opened a (record (memory_in old) { connections = old.connections.numbered ++ Some fresh_connection ∷ [] }) kept h.1
    (h.0 ∙ ap answers.Opened (ap length (kept_connections old kept) ∙ length-connections_of (past S H)))
    (record {
      connections = ap (λ z. z ++ Some fresh_connection ∷ []) (kept_connections old kept) ∙ sym (connections-opened S H pass a kept.legal);
      closed = kept_closed old kept;
      pipelines = kept_pipelines old kept ∙ sym (pipelines-opened S H pass a);
      hosts = kept_hosts old kept;
    })

pub finished-made : (old new : Machine) (pass conn : ℕ) (a : Answer) → IsKept old
    → (a ≡ answers.Finishing)
    × IsTurned old new pass (Finished conn) a (record (memory_in old) { connections = with_connection finished_connection conn old.connections.numbered })
    → IsMade old new pass (Finished conn) a
finished-made old new pass conn a kept h =
    let S = setting_in old in
    let H = history_in old in
    made old new pass (Finished conn) a (record (memory_in old) { connections = with_connection finished_connection conn old.connections.numbered }) kept h.1 h.0
    (record {
      connections = ap (with_connection finished_connection conn) (kept_connections old kept) ∙ sym (connections-finished S H pass conn a);
      closed = kept_closed old kept;
      pipelines = kept_pipelines old kept ∙ sym (pipelines-finished S H pass conn a);
      hosts = kept_hosts old kept;
    })

pub closed-made : (old new : Machine) (pass conn : ℕ) (a : Answer) → IsKept old
    → (a ≡ answers.Closed)
    × IsTurned old new pass (Closed conn) a (record (memory_in old) {
      connections = connections_without conn old.connections.numbered;
      closed = old.connections.closed + 1;
      pipelines = map (without_connection conn) (memory_in old).pipelines;
    })
    → IsMade old new pass (Closed conn) a
closed-made old new pass conn a kept h =
    let S = setting_in old in
    let H = history_in old in
    made old new pass (Closed conn) a
    (record (memory_in old) { connections = connections_without conn old.connections.numbered; closed = old.connections.closed + 1; pipelines = map (without_connection conn) (memory_in old).pipelines })
    kept h.1 h.0
    (record {
      connections = ap (connections_without conn) (kept_connections old kept) ∙ sym (connections-closed S H pass conn a);
      closed = ap (λ z. z + 1) (kept_closed old kept);
      pipelines = ap (map (without_connection conn)) (kept_pipelines old kept) ∙ sym (pipelines-closed S H pass conn a);
      hosts = kept_hosts old kept;
    })

-- SWEPT, HANDED

pub swept-made : (old new : Machine) (pass t : ℕ) (a : Answer) → IsKept old
    → IsTurned old new pass (Swept t) a (record (memory_in old) { hosts = new.ejector.state })
    → ((O : State) (marks : List Mark) → state old.ejector.rules O marks ≡ old.ejector.state → a ≡ counts_of (sweep_answer old.ejector.rules O (mark.Sweep t) marks))
    → ((O : State) (marks : List Mark) → state old.ejector.rules O marks ≡ old.ejector.state → new.ejector.state ≡ state old.ejector.rules O (mark.Sweep t ∷ marks))
    → IsMade old new pass (Swept t) a
swept-made old new pass t a kept turned is moves =
    let S = setting_in old in
    let H = history_in old in
    made old new pass (Swept t) a (record (memory_in old) { hosts = new.ejector.state }) kept turned
    (is S.opening (past S H).marks (sym (kept_hosts old kept)))
    (record {
      connections = kept_connections old kept ∙ sym (connections-swept S H pass t a);
      closed = kept_closed old kept;
      pipelines = kept_pipelines old kept ∙ sym (pipelines-swept S H pass t a);
      hosts = moves S.opening (past S H).marks (sym (kept_hosts old kept));
    })

pub handed-made : (old new : Machine) (pass conn : ℕ) (a : Answer) → IsKept old
    → (a ≡ answers.Bytes (text_in (memory_in old) (Handed conn)))
    × IsTurned old new pass (Handed conn) a (record (memory_in old) { connections = with_connection connection_without_front conn old.connections.numbered })
    → IsMade old new pass (Handed conn) a
handed-made old new pass conn a kept h =
    let S = setting_in old in
    let H = history_in old in
    let memory : Memory = record (memory_in old) { connections = with_connection connection_without_front conn old.connections.numbered } in
    let n = no_cause old new pass (Handed conn) a memory kept h.1 in
    made old new pass (Handed conn) a memory kept h.1
    (h.0 ∙ ap answers.Bytes (ap (λ (z : Memory). text_in z (Handed conn)) kept.memory ∙ text_in-handed S H conn (handed_open S (past S H) conn n)))
    (record {
      connections = ap (with_connection connection_without_front conn) (kept_connections old kept) ∙ sym (connections-handed S H pass conn a);
      closed = kept_closed old kept;
      pipelines = kept_pipelines old kept ∙ sym (pipelines-handed S H pass conn a);
      hosts = kept_hosts old kept;
    })

-- TAKEN, ANSWERED, FAILED

-- the pipeline of a host that there is
pub at_host : (m : Machine) (h : ℕ) → IsKept m → h < hosts (setting_in m) → pipeline_at h (memory_in m).pipelines ≡ pipeline_of (past (setting_in m) (history_in m)) h
at_host m h kept l = ap (λ (z : List PipelineState). pipeline_at h z) (kept_pipelines m kept) ∙ pipeline_at-pipelines_of (setting_in m) (past (setting_in m) (history_in m)) h l

sent : (x : Past) (h : ℕ) (p : PipelineState) → p ≡ pipeline_of x h
    → answers.Sent p.epoch p.taken (text_of_oldest p.waiting) ≡ answers.Sent (epoch h x.steps) (length (sent_to h (epoch h x.steps) x)) (text_of_first (waiting_parts h x))
sent x h p e = ap (λ (q : PipelineState). answers.Sent q.epoch q.taken (text_of_oldest q.waiting)) e
    ∙ ap (answers.Sent (epoch h x.steps) (length (sent_to h (epoch h x.steps) x))) (text_of_oldest-pipeline x h)

pub taken-made : (old new : Machine) (pass host : ℕ) (a : Answer) → IsKept old
    → (a ≡ answers.Sent (pipeline_at host (memory_in old).pipelines).epoch (pipeline_at host (memory_in old).pipelines).taken (text_in (memory_in old) (Taken host)))
    × IsTurned old new pass (Taken host) a (record (memory_in old) { pipelines = with_pipeline taken_from host (memory_in old).pipelines })
    → IsMade old new pass (Taken host) a
taken-made old new pass host a kept h =
    let S = setting_in old in
    let H = history_in old in
    let memory : Memory = record (memory_in old) { pipelines = with_pipeline taken_from host (memory_in old).pipelines } in
    let n = no_cause old new pass (Taken host) a memory kept h.1 in
    made old new pass (Taken host) a memory kept h.1
    (h.0 ∙ sent (past S H) host (pipeline_at host (memory_in old).pipelines) (at_host old host kept (taken_has_host S H host n)))
    (record {
      connections = kept_connections old kept ∙ sym (connections-taken S H pass host a kept.legal);
      closed = kept_closed old kept;
      pipelines = ap (with_pipeline taken_from host) (kept_pipelines old kept) ∙ sym (pipelines-taken S H pass host a kept.legal n);
      hosts = kept_hosts old kept;
    })

pub answered-made : (old new : Machine) (pass host e t : ℕ) (value : Value) (a : Answer) → IsKept old
    → IsTurned old new pass (Answered host e value t) a (record (memory_in old) {
      connections = answered_parts (next_owner (pipeline_at host (memory_in old).pipelines).flying) (tree_of value) old.connections.numbered;
      pipelines = with_pipeline answered_by host (memory_in old).pipelines;
      hosts = new.ejector.state;
    })
    → ((O : State) (marks : List Mark) → state old.ejector.rules O marks ≡ old.ejector.state → a ≡ answers.Matched (trip old.ejector.rules O (mark.Good host t) marks))
    → ((O : State) (marks : List Mark) → state old.ejector.rules O marks ≡ old.ejector.state → new.ejector.state ≡ state old.ejector.rules O (mark.Good host t ∷ marks))
    → IsMade old new pass (Answered host e value t) a
answered-made old new pass host e t value a kept turned is moves =
    let S = setting_in old in
    let H = history_in old in
    let memory : Memory = record (memory_in old) {
      connections = answered_parts (next_owner (pipeline_at host (memory_in old).pipelines).flying) (tree_of value) old.connections.numbered;
      pipelines = with_pipeline answered_by host (memory_in old).pipelines;
      hosts = new.ejector.state;
    } in
    let n = no_cause old new pass (Answered host e value t) a memory kept turned in
    let at = at_host old host kept (has_host S (past S H) (Answered host e value t) n) in
    made old new pass (Answered host e value t) a memory kept turned
    (is S.opening (past S H).marks (sym (kept_hosts old kept)))
    (record {
      connections =
          ap (λ (z : PipelineState). answered_parts (next_owner z.flying) (tree_of value) old.connections.numbered) at
          ∙ ap (λ z. answered_parts (next_owner (pipeline_of (past S H) host).flying) (tree_of value) z) (kept_connections old kept)
          ∙ sym (connections-answered S H pass host e t value a kept.legal n);
      closed = kept_closed old kept;
      pipelines = ap (with_pipeline answered_by host) (kept_pipelines old kept) ∙ sym (pipelines-answered S H pass host e t value a n);
      hosts = moves S.opening (past S H).marks (sym (kept_hosts old kept));
    })

mark_is : (x : Past) (h e t : ℕ) (kind : Kind) → fault_mark (pipeline_of x h) h kind t ≡ mark_by x (Failed h e kind t)
mark_is x h e t kind =
    ap (λ n. mark_of_fault n (length (pipeline_of x h).flying) h kind t) (length-pipeline_waiting x h)
    ∙ ap (λ n. mark_of_fault (length (waiting_parts h x)) n h kind t) (length-pipeline_flying x h)

lost_is : (S : Setting) (x : Past) (h e t : ℕ) (kind : Kind) (p : PipelineState) → p ≡ pipeline_of x h
    → answers.Lost (length p.waiting + length p.flying) (trip_by S.rules S.opening (fault_mark p h kind t) x.marks) ≡ answer_to S x (Failed h e kind t)
lost_is S x h e t kind p same =
    ap (λ (q : PipelineState). answers.Lost (length q.waiting + length q.flying) (trip_by S.rules S.opening (fault_mark q h kind t) x.marks)) same
    ∙ ap (λ z. answers.Lost (z + length (pipeline_of x h).flying) (trip_by S.rules S.opening (fault_mark (pipeline_of x h) h kind t) x.marks)) (length-pipeline_waiting x h)
    ∙ ap (λ z. answers.Lost (length (waiting_parts h x) + z) (trip_by S.rules S.opening (fault_mark (pipeline_of x h) h kind t) x.marks)) (length-pipeline_flying x h)
    ∙ ap (answers.Lost (length (waiting_parts h x) + flying_count h x))
    (ap (λ z. trip_by S.rules S.opening z x.marks) (mark_is x h e t kind))

pub failed-made : (old new : Machine) (pass host e t : ℕ) (kind : Kind) (a : Answer) → IsKept old
    → IsTurned old new pass (Failed host e kind t) a (record (memory_in old) {
      connections = answered_parts (lost_owners (pipeline_at host (memory_in old).pipelines)) upstream_failure old.connections.numbered;
      pipelines = with_pipeline failed_pipeline host (memory_in old).pipelines;
      hosts = new.ejector.state;
    })
    → ((O : State) (marks : List Mark) → state old.ejector.rules O marks ≡ old.ejector.state
    → a ≡ answers.Lost (length (pipeline_at host (memory_in old).pipelines).waiting + length (pipeline_at host (memory_in old).pipelines).flying)
    (trip_by old.ejector.rules O (fault_mark (pipeline_at host (memory_in old).pipelines) host kind t) marks))
    → ((O : State) (marks : List Mark) → state old.ejector.rules O marks ≡ old.ejector.state
    → new.ejector.state ≡ state old.ejector.rules O (fault_mark (pipeline_at host (memory_in old).pipelines) host kind t ++ marks))
    → IsMade old new pass (Failed host e kind t) a
failed-made old new pass host e t kind a kept turned is moves =
    let S = setting_in old in
    let H = history_in old in
    let memory : Memory = record (memory_in old) {
      connections = answered_parts (lost_owners (pipeline_at host (memory_in old).pipelines)) upstream_failure old.connections.numbered;
      pipelines = with_pipeline failed_pipeline host (memory_in old).pipelines;
      hosts = new.ejector.state;
    } in
    let n = no_cause old new pass (Failed host e kind t) a memory kept turned in
    let at = at_host old host kept (has_host S (past S H) (Failed host e kind t) n) in
    made old new pass (Failed host e kind t) a memory kept turned
    (is S.opening (past S H).marks (sym (kept_hosts old kept)) ∙ lost_is S (past S H) host e t kind (pipeline_at host (memory_in old).pipelines) at)
    (record {
      connections =
          ap (λ (z : PipelineState). answered_parts (lost_owners z) upstream_failure old.connections.numbered) at
          ∙ ap (λ z. answered_parts (lost_owners (pipeline_of (past S H) host)) upstream_failure z) (kept_connections old kept)
          ∙ sym (connections-failed S H pass host e t kind a kept.legal);
      closed = kept_closed old kept;
      pipelines = ap (with_pipeline failed_pipeline host) (kept_pipelines old kept) ∙ sym (pipelines-failed S H pass host e t kind a);
      hosts = moves S.opening (past S H).marks (sym (kept_hosts old kept))
          ∙ ap (λ z. state S.rules S.opening (z ++ (past S H).marks)) (ap (λ (z : PipelineState). fault_mark z host kind t) at ∙ mark_is (past S H) host e t kind);
    })

-- ARRIVED

pub arrived-made : (old new : Machine) (pass conn : ℕ) (request : Request) (a : Answer) → IsKept old
    → a ≡ answer_to (setting_in old) (past (setting_in old) (history_in old)) (Arrived conn request)
    → IsTurned old new pass (Arrived conn request) a (record (memory_in old) {
      connections = with_connection (connection_with_command (arrived_command (plan_for request)
          (parts_by (setting_in old) (past (setting_in old) (history_in old)) (Arrived conn request)))
          (is_last (plan_for request))) conn old.connections.numbered;
      pipelines = pushed_parts (parts_by (setting_in old) (past (setting_in old) (history_in old)) (Arrived conn request)) (memory_in old).pipelines;
    })
    → IsMade old new pass (Arrived conn request) a
arrived-made old new pass conn request a kept is turned =
    let S = setting_in old in
    let H = history_in old in
    let new_parts = parts_by S (past S H) (Arrived conn request) in
    let change = connection_with_command (arrived_command (plan_for request) new_parts) (is_last (plan_for request)) in
    let memory : Memory = record (memory_in old) {
      connections = with_connection change conn old.connections.numbered;
      pipelines = pushed_parts new_parts (memory_in old).pipelines;
    } in
    let n = no_cause old new pass (Arrived conn request) a memory kept turned in
    made old new pass (Arrived conn request) a memory kept turned is
    (record {
      connections = ap (with_connection change conn) (kept_connections old kept) ∙ sym (connections-arrived S H pass conn request a kept.legal);
      closed = kept_closed old kept;
      pipelines = ap (pushed_parts new_parts) (kept_pipelines old kept) ∙ sym (pipelines-arrived S H pass conn request a n);
      hosts = kept_hosts old kept;
    })

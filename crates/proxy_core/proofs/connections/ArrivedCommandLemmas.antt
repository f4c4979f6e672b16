-- How the connections change as a command arrives.
use Rattle.std.proofs.Common.{◌≡◌, ℕ, zero, suc, ◌+◌, ◌≤◌, Bool, true, false, ◌==◌, ◌||◌, List, [], ◌∷◌, ◌++◌, length, map, drop, refl, sym, ap, ◌∙◌, inl, inr, arith}
use Rattle.std.specs.Prelude.{option_map}
use Rattle.std.proofs.lemmas.Bool.{cases_Bool, and_left, eq-eqb}
use Rattle.list_lemmas.proofs.CallerLemmas.{changed_at-table}
use Rattle.splitter.specs.Plan.{Plan, here, leave, parts, is_last}
use Rattle.splitter.specs.Join.{MayJoin}
use Rattle.splitter.specs.declared.plans.Join.{Join}
use Rattle.splitter.specs.declared.plans.PartPlan.{PartPlan}
use Rattle.splitter.specs.declared.request.Request.{Request}
use Rattle.proxy_history.specs.Setting.{Setting}
use Rattle.proxy_history.specs.History.{History, Step, openings, accepted_count, handed_count, is_closed, is_finishing, is_handing, is_closing, finishes, requests, request_by, plan_for}
use Rattle.proxy_history.specs.Part.{Past}
use Rattle.proxy_history.specs.Past.{past, after}
use Rattle.proxy_history.specs.Value.{value_of}
use Rattle.proxy_history.specs.Arrival.{parts_by, placed_by, parts_placed}
use Rattle.proxy_history.specs.Legal.{IsLegal}
use Rattle.proxy_history.specs.declared.answer.Answer.{Answer}
use Rattle.proxy_history.specs.declared.event.Event.TheVariants.{Arrived}
use Rattle.proxy_history.proofs.CallerLemmas.{length-requests, length-placing, MayJoin-plan_for as plan_may_join}
use Rattle.proxy_core.specs.Connections.{awaited_by, awaited_from, connection_of, connections_of, with_connection, connection_with_command, arrived_command}
use Rattle.proxy_core.proofs.connections.CommandRows.{IsQuiet, row, length-row, awaited_from-more, quiet_before, quiet_value, same_values}
use Rattle.proxy_core.proofs.connections.ConnectionCounts.{handed_were_accepted}
use Rattle.proxy_core.proofs.connections.ConnectionEvents.{aside, differs}
use Rattle.proxy_core.proofs.parts.NewParts.{placed_values, placed_are_its}

quiet-arrived : (x : Past) (conn : ℕ) (request : Request) → IsQuiet x (Arrived conn request)
quiet-arrived x conn request = record { sends_none = refl; brings_none = λ h e. refl; is_no_fault = λ h. refl }

-- the new command
new_command : (S : Setting) (H : History) (s : Step) (conn : ℕ) (plan : Plan) → IsQuiet (past S H) s.event → parts_by S (past S H) s.event ≡ placed_by S (past S H) conn plan
    → awaited_by (after S s (past S H)) conn (accepted_count conn H) plan ≡ arrived_command plan (placed_by S (past S H) conn plan)
new_command S H s conn (here name value) q e = refl
new_command S H s conn (leave name value) q e = refl
new_command S H s conn (parts how list) q e =
    let x = past S H in
    ap (λ z. record { how = how; values = map (value_of (after S s x)) z }) (placed_are_its S H s conn list e)
    ∙ ap (λ z. record { how = how; values = z })
    (same_values (value_of (after S s x)) (value_of x) (λ p. quiet_value S x s p q) (parts_placed S x conn (accepted_count conn H) [] list) ∙ placed_values S H conn list)

-- the commands with the new one behind them
new_row : (S : Setting) (H : History) (s : Step) (conn : ℕ) (request : Request) → s.event ≡ Arrived conn request
    → row (after S s (past S H)) conn ≡ row (past S H) conn ++ arrived_command (plan_for request) (parts_by S (past S H) (Arrived conn request)) ∷ []
new_row S H s conn request e =
    let x = past S H in
    let one : request_by conn s.event ≡ request ∷ [] = rw (e, eq-eqb conn conn refl) refl in
    let quiet : IsQuiet x s.event = rw e (quiet-arrived x conn request) in
    let index : 0 + length (requests conn H) ≡ accepted_count conn H = omega (arith, length-requests conn H) in
    ap (λ z. awaited_from (after S s x) conn 0 (requests conn H ++ z)) one
    ∙ awaited_from-more (after S s x) conn 0 (requests conn H) request
    ∙ ap (λ z. z ++ awaited_by (after S s x) conn (0 + length (requests conn H)) (plan_for request) ∷ []) (quiet_before S x s conn quiet)
    ∙ ap (λ z. row x conn ++ awaited_by (after S s x) conn z (plan_for request) ∷ []) index
    ∙ ap (λ z. row x conn ++ z ∷ []) (new_command S H s conn (plan_for request) quiet (ap (parts_by S x) e))

drop-front : {X : Type 0} (n : ℕ) (xs ys : List X) → n ≤ length xs → drop n (xs ++ ys) ≡ drop n xs ++ ys
drop-front zero xs ys l = refl
drop-front (suc n) [] ys l = absurd (omega (arith, l))
drop-front (suc n) (x ∷ xs) ys l = drop-front n xs ys (omega (arith, l))

or_swap : (a b : Bool) → (a || b) ≡ (b || a)
or_swap true true = refl
or_swap true false = refl
or_swap false true = refl
or_swap false false = refl

arrived_at : (S : Setting) (H : History) (s : Step) (conn : ℕ) (request : Request) → IsLegal S H → s.event ≡ Arrived conn request
    → connection_of (after S s (past S H)) conn
    ≡ option_map (connection_with_command (arrived_command (plan_for request) (parts_by S (past S H) (Arrived conn request))) (is_last (plan_for request))) (connection_of (past S H) conn)
arrived_at S H s conn request legal e =
    let x = past S H in
    let command = arrived_command (plan_for request) (parts_by S x (Arrived conn request)) in
    let few : handed_count conn H ≤ length (row x conn) = omega (arith, handed_were_accepted S H conn legal, length-row x conn) in
    let commands : drop (handed_count conn H) (row (after S s x) conn) ≡ drop (handed_count conn H) (row x conn) ++ command ∷ [] =
    ap (drop (handed_count conn H)) (new_row S H s conn request e) ∙ drop-front (handed_count conn H) (row x conn) (command ∷ []) few in
    let no_handing : is_handing conn s.event ≡ false = rw e refl in
    let no_closing : is_closing conn s.event ≡ false = rw e refl in
    let last : finishes conn s.event ≡ is_last (plan_for request) = rw (e, eq-eqb conn conn refl) refl in
    elim (cases_Bool (is_closed conn H)) [
      | inl t ↦ rw (no_closing, t) refl
      | inr f ↦ rw (no_closing, f, no_handing, commands, last, or_swap (is_last (plan_for request)) (is_finishing conn H)) refl
    ]

-- the command stands behind the others of its connection
pub connections-arrived : (S : Setting) (H : History) (pass conn : ℕ) (request : Request) (answer : Answer) → IsLegal S H
    → connections_of (past S (record { pass = pass; event = Arrived conn request; answer = answer } ∷ H))
    ≡ with_connection (connection_with_command (arrived_command (plan_for request) (parts_by S (past S H) (Arrived conn request))) (is_last (plan_for request))) conn (connections_of (past S H))
connections-arrived S H pass conn request answer legal =
    let x = past S H in
    let s : Step = record { pass = pass; event = Arrived conn request; answer = answer } in
    let change = connection_with_command (arrived_command (plan_for request) (parts_by S x (Arrived conn request))) (is_last (plan_for request)) in
    sym (changed_at-table (connection_of x) (connection_of (after S s x)) (option_map change) (openings H) conn (λ l. arrived_at S H s conn request legal refl)
    (λ j l q. let d = differs j conn q in
    sym (aside S x s j (quiet-arrived x conn request) (record { no_request = rw d refl; no_handing = refl; no_closing = refl; no_finish = and_left (conn == j) (is_last (plan_for request)) d }))))

-- a command has as many values as its join is asked
pub arrived_may_join : (S : Setting) (x : Past) (conn : ℕ) (request : Request) (how : Join) (list : List PartPlan) → plan_for request ≡ parts how list
    → MayJoin how (length (parts_by S x (Arrived conn request)))
arrived_may_join S x conn request how list e =
    let as_many : length (parts_by S x (Arrived conn request)) ≡ length list =
    ap (λ z. length (placed_by S x conn z)) e ∙ length-placing S x conn (accepted_count conn x.steps) [] list ∙ omega arith in
    rw as_many (plan_may_join request how list e)

-- What ejections leave as it is.
use Rattle.std.proofs.Common.{◌≡◌, ℕ, List, [], ◌∷◌, ◌++◌, length, map, Option, Some, None, refl, sym, ap, ◌∙◌}
use Rattle.std.proofs.lemmas.List.{length-map, map-append}
use Rattle.ketama.specs.Owner.{owner_of}
use Rattle.ejector.specs.declared.mark.Mark.{Mark}
use Rattle.splitter.specs.Plan.{Plan, here, leave, parts}
use Rattle.splitter.specs.declared.plans.PartPlan.{PartPlan}
use Rattle.splitter.specs.declared.plans.Local.{Local}
use Rattle.proxy_history.specs.Setting.{Setting, point_for}
use Rattle.proxy_history.specs.History.{accepted_count, plan_for}
use Rattle.proxy_history.specs.Part.{Past, Part}
use Rattle.proxy_history.specs.Waiting.{sent_by}
use Rattle.proxy_history.specs.Arrival.{usable_flags, host_for, hostless, with_host, placed_part, parts_placed, placed_by, parts_by}
use Rattle.proxy_history.specs.Cause.{own_cause}
use Rattle.proxy_history.specs.Answer.{answer_to, accepts, local_of}
use Rattle.proxy_history.specs.EjectionLaws.{without_host, without_trips, without_hosts, IsLeftAlone}
use Rattle.proxy_history.specs.declared.answer.Answer.TheVariants as answer
use Rattle.proxy_history.specs.declared.event.Event.{Event}
use Rattle.proxy_history.specs.declared.event.Event.TheVariants.{Arrived}

module _ (S : Setting) (x : Past) (marks : List Mark) where
  abbrev y : Past
  y = record x { marks = marks }

  same_cause : (event : Event) → own_cause S y event ≡ own_cause S x event
  same_cause _ = refl

  same_sent : (event : Event) → sent_by y event ≡ sent_by x event
  same_sent _ = refl

  -- with the same usable hosts each part is placed alike
  same_with : (placed : List Part) (o : Option ℕ) (p : Part) → with_host y placed o p ≡ with_host x placed o p
  same_with placed None p = refl
  same_with placed (Some h) p = refl

  same_place : (conn command : ℕ) (placed : List Part) (q : PartPlan) → usable_flags S y ≡ usable_flags S x
      → placed_part S y conn command placed q ≡ placed_part S x conn command placed q
  same_place conn command placed q e =
      same_with placed (host_for S y q.key) (hostless conn command (length placed) q)
      ∙ ap (λ u. with_host x placed (owner_of S.ring.pairs (point_for S q.key) u) (hostless conn command (length placed) q)) e

  same_placing : (conn command : ℕ) (placed : List Part) (ps : List PartPlan) → usable_flags S y ≡ usable_flags S x
      → parts_placed S y conn command placed ps ≡ parts_placed S x conn command placed ps
  same_placing conn command placed [] e = refl
  same_placing conn command placed (q ∷ ps) e =
      ap (λ p. parts_placed S y conn command (placed ++ p ∷ []) ps) (same_place conn command placed q e)
      ∙ same_placing conn command (placed ++ placed_part S x conn command placed q ∷ []) ps e

  same_placed : (conn : ℕ) (p : Plan) → usable_flags S y ≡ usable_flags S x → placed_by S y conn p ≡ placed_by S x conn p
  same_placed conn (parts how list) e = same_placing conn (accepted_count conn x.steps) [] list e
  same_placed conn (here name value) e = refl
  same_placed conn (leave name value) e = refl

  same_parts : (event : Event) → usable_flags S y ≡ usable_flags S x → parts_by S y event ≡ parts_by S x event
  same_parts (Arrived conn request) e = same_placed conn (plan_for request) e
  same_parts _ e = refl

  -- whichever hosts are usable, the parts are the same but for their hosts
  bare_is : (z : Past) (placed : List Part) (o : Option ℕ) (p : Part)
      → without_host (with_host z placed o p) ≡ without_host p
  bare_is z placed None p = refl
  bare_is z placed (Some h) p = refl

  bare_place : (conn command : ℕ) (ps qs : List Part) (q : PartPlan) → map without_host ps ≡ map without_host qs
      → without_host (placed_part S y conn command ps q) ≡ without_host (placed_part S x conn command qs q)
  bare_place conn command ps qs q e =
      let count : length ps ≡ length qs =
      sym (length-map ps without_host) ∙ ap length e ∙ length-map qs without_host in
      bare_is y ps (host_for S y q.key) (hostless conn command (length ps) q)
      ∙ ap (λ n. without_host (hostless conn command n q)) count
      ∙ sym (bare_is x qs (host_for S x q.key) (hostless conn command (length qs) q))

  bare_placing : (conn command : ℕ) (ps qs : List Part) (plans : List PartPlan)
      → map without_host ps ≡ map without_host qs
      → map without_host (parts_placed S y conn command ps plans)
      ≡ map without_host (parts_placed S x conn command qs plans)
  bare_placing conn command ps qs [] e = e
  bare_placing conn command ps qs (q ∷ plans) e =
      let p = placed_part S y conn command ps q in
      let r = placed_part S x conn command qs q in
      bare_placing conn command (ps ++ p ∷ []) (qs ++ r ∷ []) plans
      (map-append without_host ps (p ∷ []) ∙ ap (λ z. z ++ without_host p ∷ []) e ∙ ap (λ z. map without_host qs ++ z ∷ []) (bare_place conn command ps qs q e) ∙ sym (map-append without_host qs (r ∷ [])))

  bare_placed : (conn : ℕ) (p : Plan)
      → map without_host (placed_by S y conn p) ≡ map without_host (placed_by S x conn p)
  bare_placed conn (parts how list) = bare_placing conn (accepted_count conn x.steps) [] [] list refl
  bare_placed conn (here name value) = refl
  bare_placed conn (leave name value) = refl

  same_but_hosts : (event : Event)
      → map without_host (parts_by S y event) ≡ map without_host (parts_by S x event)
  same_but_hosts (Arrived conn request) = bare_placed conn (plan_for request)
  same_but_hosts _ = refl

  -- what an arrival tells of its parts, but for their hosts
  same_accepted : (index : ℕ) (o : Option Local) (ps qs : List Part) → map without_host ps ≡ map without_host qs
      → without_hosts (accepts index o ps) ≡ without_hosts (accepts index o qs)
  same_accepted index o ps qs e =
      let count : length ps ≡ length qs =
      sym (length-map ps without_host) ∙ ap length e ∙ length-map qs without_host in
      ap (λ n. answer.Accepted index o n 0 0) count

  same_answer : (event : Event)
      → without_hosts (without_trips (answer_to S y event))
      ≡ without_hosts (without_trips (answer_to S x event))
  same_answer (Arrived conn request) =
      same_accepted (accepted_count conn x.steps) (local_of (plan_for request)) (parts_by S y (Arrived conn request)) (parts_by S x (Arrived conn request)) (same_but_hosts (Arrived conn request))
  same_answer _ = refl

  same_arrival : (event : Event) → usable_flags S y ≡ usable_flags S x
      → without_trips (answer_to S y event) ≡ without_trips (answer_to S x event)
  same_arrival (Arrived conn request) e = ap (accepts (accepted_count conn x.steps) (local_of (plan_for request))) (same_parts (Arrived conn request) e)
  same_arrival _ e = refl

  left_alone : (event : Event) → IsLeftAlone S x y event
  left_alone event = record {
    same_cause = same_cause event;
    same_sent = same_sent event;
    same_outcomes = λ c i. refl;
    same_but_hosts = same_but_hosts event;
    same_answer = same_answer event;
    same_parts = same_parts event;
    same_arrival = same_arrival event;
  }

pub ejections_choose_hosts_alone : (S : Setting) (x : Past) (marks : List Mark) (event : Event)
    → IsLeftAlone S x (record x { marks = marks }) event
ejections_choose_hosts_alone S x marks event = left_alone S x marks event

-- Each part is one of a command that arrived.
use Rattle.std.proofs.Common.{◌≡◌, ◌⊎◌, ℕ, suc, ◌+◌, ◌<◌, ◌≤◌, Bool, true, false, nat_lt, List, [], ◌∷◌, ◌++◌, length, Contains, subst, Option, Some, None, refl, sym, ap, ◌∙◌, inl, inr, arith, if◌then◌else◌}
use Rattle.std.specs.List.{slice_get}
use Rattle.std.proofs.lemmas.Bool.{ltb-true, ltb-false}
use Rattle.std.proofs.lemmas.List.{append-nil, append_assoc, length-append}
use Rattle.std.proofs.lemmas.List.Elements.{Contains-append_left, Contains-append_cases, Contains-push_cases}
use Rattle.list_lemmas.proofs.CallerLemmas.{Contains-nil, Contains-filter}
use Rattle.splitter.specs.Plan.{Plan, here, leave, parts}
use Rattle.splitter.specs.declared.plans.Join.{Join}
use Rattle.splitter.specs.declared.plans.PartPlan.{PartPlan}
use Rattle.splitter.specs.declared.request.Request.{Request}
use Rattle.proxy_history.specs.Setting.{Setting, max_waiting}
use Rattle.proxy_history.specs.History.{History, Step, plan_for, accepted_count}
use Rattle.proxy_history.specs.Part.{Past, Part}
use Rattle.proxy_history.specs.Past.{past}
use Rattle.proxy_history.specs.Waiting.{waits, waiting_parts, first, sent_by}
use Rattle.proxy_history.specs.Arrival.{no_upstream_host, proxy_busy, before_it, parts_by, placed_by, parts_placed, placed_part, with_host, host_for, hostless}
use Rattle.proxy_history.specs.Laws.{IsPlaced, HasArrived}
use Rattle.proxy_history.specs.declared.event.Event.{Event}
use Rattle.proxy_history.specs.declared.event.Event.TheVariants.{Arrived, Taken}
use Rattle.proxy_history.proofs.parts.PlacingLemmas.{host_keeps_conn, host_keeps_command}
use Rattle.proxy_history.proofs.parts.AreApartLemmas.{host_keeps_number}

-- WHAT IS PLACED

-- the part was placed behind these of its command, by this plan of its number among those
record IsPlacedBy (S : Setting) (x : Past) (conn command : ℕ) (placed : List Part) (plans : List PartPlan) (p : Part) : Type 0 where
  place : ℕ
  plan : PartPlan
  plan_is : slice_get plans place ≡ Some plan
  front : List Part
  length_is : length front ≡ length placed + place
  is : p ≡ placed_part S x conn command front plan
  rest : List Part
  split : parts_placed S x conn command placed plans ≡ front ++ p ∷ rest

-- what was placed stays in front
placing_grows : (S : Setting) (x : Past) (conn command : ℕ) (placed : List Part) (plans : List PartPlan) → (more : List Part) × (parts_placed S x conn command placed plans ≡ placed ++ more)
placing_grows S x conn command placed [] = ([], sym (append-nil placed))
placing_grows S x conn command placed (q ∷ plans) =
    let p = placed_part S x conn command placed q in
    let a = placing_grows S x conn command (placed ++ p ∷ []) plans in
    (p ∷ a.0, a.1 ∙ append_assoc placed (p ∷ []) a.0)

placed_is_by : (S : Setting) (x : Past) (conn command : ℕ) (placed : List Part) (plans : List PartPlan) (p : Part)
    → Contains (parts_placed S x conn command placed plans) p → Contains placed p ⊎ IsPlacedBy S x conn command placed plans p
placed_is_by S x conn command placed [] p h = inl h
placed_is_by S x conn command placed (q ∷ plans) p h =
    elim (placed_is_by S x conn command (placed ++ placed_part S x conn command placed q ∷ []) plans p h) [
      | inl earlier ↦ elim (Contains-push_cases placed (placed_part S x conn command placed q) p earlier) [
        | inl before ↦ inl before
        | inr is ↦
            let a = placing_grows S x conn command (placed ++ placed_part S x conn command placed q ∷ []) plans in
            inr (record {
              place = 0;
              plan = q;
              plan_is = refl;
              front = placed;
              length_is = omega arith;
              is = sym is;
              rest = a.0;
              split = a.1 ∙ append_assoc placed (placed_part S x conn command placed q ∷ []) a.0 ∙ ap (λ z. placed ++ z ∷ a.0) is;
            })
      ]
      | inr a ↦ inr (record {
        place = suc a.place;
        plan = a.plan;
        plan_is = a.plan_is;
        front = a.front;
        length_is = omega (arith, a.length_is, length-append placed (placed_part S x conn command placed q ∷ []));
        is = a.is;
        rest = a.rest;
        split = a.split;
      })
    ]

-- WHAT A PART GETS

host_is : (x : Past) (placed : List Part) (o : Option ℕ) (p : Part) → p.host ≡ None → (with_host x placed o p).host ≡ o
host_is x placed None p n = n
host_is x placed (Some h) p n = refl

pub text_is : (x : Past) (placed : List Part) (o : Option ℕ) (p : Part) → (with_host x placed o p).text ≡ p.text
text_is x placed None p = refl
text_is x placed (Some h) p = refl

room_or_busy : (n : ℕ) (b : Bool) → nat_lt n max_waiting ≡ b
    → ((n < max_waiting) × ((if b then None else Some proxy_busy) ≡ None)) ⊎ ((max_waiting ≤ n) × ((if b then None else Some proxy_busy) ≡ Some proxy_busy))
room_or_busy n true e = inl (ltb-true n max_waiting e, refl)
room_or_busy n false e = inr (ltb-false n max_waiting e, refl)

got_is : (x : Past) (placed : List Part) (o : Option ℕ) (p : Part) → p.host ≡ None → p.local ≡ Some no_upstream_host
    → IsPlaced x placed (with_host x placed o p).host (with_host x placed o p).epoch (with_host x placed o p).local
got_is x placed None p n l = rw n l
got_is x placed (Some h) p n l = (refl, room_or_busy (before_it h x placed) (nat_lt (before_it h x placed) max_waiting) refl)

-- ARRIVALS

pub record IsNew (S : Setting) (x : Past) (event : Event) (p : Part) : Type 0 where
  conn : ℕ
  request : Request
  arrives : event ≡ Arrived conn request
  how : Join
  list : List PartPlan
  is_split : plan_for request ≡ parts how list
  by : IsPlacedBy S x conn (accepted_count conn x.steps) [] list p

new_by_plan : (S : Setting) (x : Past) (conn : ℕ) (request : Request) (p : Part) (plan : Plan) → plan_for request ≡ plan → Contains (placed_by S x conn plan) p → IsNew S x (Arrived conn request) p
new_by_plan S x conn request p (parts how list) e h = elim (placed_is_by S x conn (accepted_count conn x.steps) [] list p h) [
  | inl earlier ↦ absurd (Contains-nil p earlier)
  | inr by ↦ record { conn = conn; request = request; arrives = refl; how = how; list = list; is_split = e; by = by }
]
new_by_plan S x conn request p (here name value) e h = absurd (Contains-nil p h)
new_by_plan S x conn request p (leave name value) e h = absurd (Contains-nil p h)

pub new_is : (S : Setting) (x : Past) (event : Event) (p : Part) → Contains (parts_by S x event) p → IsNew S x event p
new_is S x (Arrived conn request) p h = new_by_plan S x conn request p (plan_for request) refl h
new_is S x _ p h = absurd (Contains-nil p h)

-- the parts of an arrival, by the plan
parts_are : (S : Setting) (x : Past) (event : Event) (p : Part) (a : IsNew S x event p) → parts_by S x event ≡ parts_placed S x a.conn (accepted_count a.conn x.steps) [] a.list
parts_are S x event p a = ap (parts_by S x) a.arrives ∙ ap (placed_by S x a.conn) a.is_split

-- of a part that was placed so, what its plan says
pub arrived_now : (S : Setting) (H : History) (s : Step) (p : Part) → IsNew S (past S H) s.event p → HasArrived S (s ∷ H) p
arrived_now S H s p a =
    let x = past S H in
    let b = a.by in
    let o = host_for S x b.plan.key in
    let bare = hostless a.conn (accepted_count a.conn H) (length b.front) b.plan in
    let conn_is : p.conn ≡ a.conn = ap (λ (q : Part). q.conn) b.is ∙ host_keeps_conn x b.front o bare in
    let number : p.number ≡ length b.front = ap (λ (q : Part). q.number) b.is ∙ host_keeps_number x b.front o bare in
    record {
      later = [];
      step = s;
      before = H;
      split = refl;
      request = a.request;
      arrives = a.arrives ∙ ap (λ c. Arrived c a.request) (sym conn_is);
      command_is = ap (λ (q : Part). q.command) b.is ∙ host_keeps_command x b.front o bare ∙ ap (λ c. accepted_count c H) (sym conn_is);
      how = a.how;
      list = a.list;
      is_split = a.is_split;
      plan = b.plan;
      plan_is = ap (slice_get a.list) (omega (arith, number, b.length_is)) ∙ b.plan_is;
      text_is = ap (λ (q : Part). q.text) b.is ∙ text_is x b.front o bare;
      host_is = ap (λ (q : Part). q.host) b.is ∙ host_is x b.front o bare refl;
      placed = b.front;
      rest = b.rest;
      placed_is = parts_are S x s.event p a ∙ b.split;
      number_is = number;
      got = subst (λ (q : Part). IsPlaced x b.front q.host q.epoch q.local) (sym b.is) (got_is x b.front o bare refl refl);
    }

-- it arrived at that step
pub before-arrived_now : (S : Setting) (H : History) (s : Step) (p : Part) (a : IsNew S (past S H) s.event p) → (arrived_now S H s p a).before ≡ H
unfolding arrived_now
before-arrived_now S H s p a = refl

pub earlier_still : (S : Setting) (s : Step) (H : History) (p : Part) → HasArrived S H p → HasArrived S (s ∷ H) p
earlier_still S s H p a = record {
  later = s ∷ a.later;
  step = a.step;
  before = a.before;
  split = ap (λ z. s ∷ z) a.split;
  request = a.request;
  arrives = a.arrives;
  command_is = a.command_is;
  how = a.how;
  list = a.list;
  is_split = a.is_split;
  plan = a.plan;
  plan_is = a.plan_is;
  text_is = a.text_is;
  host_is = a.host_is;
  placed = a.placed;
  rest = a.rest;
  placed_is = a.placed_is;
  number_is = a.number_is;
  got = a.got;
}

-- at the same step
pub before-earlier_still : (S : Setting) (s : Step) (H : History) (p : Part) (a : HasArrived S H p) → (earlier_still S s H p a).before ≡ a.before
unfolding earlier_still
before-earlier_still S s H p a = refl

pub parts_have_arrived : (S : Setting) (H : History) (p : Part) → Contains (past S H).parts p → HasArrived S H p
parts_have_arrived S [] p h = absurd (Contains-nil p h)
parts_have_arrived S (s ∷ before) p h = elim (Contains-append_cases (past S before).parts (parts_by S (past S before) s.event) p h) [
  | inl earlier ↦ earlier_still S s before p (parts_have_arrived S before p earlier)
  | inr now ↦ arrived_now S before s p (new_is S (past S before) s.event p now)
]

-- WHAT WAS SENT

in_first : (ps : List Part) (p : Part) → Contains (first ps) p → Contains ps p
in_first [] p h = h
in_first (q ∷ ps) p h = Contains-append_left (q ∷ []) ps p h

sent_now : (x : Past) (event : Event) (p : Part) → Contains (sent_by x event) p → Contains x.parts p
sent_now x (Taken host) p h = Contains-filter (waits host x) x.parts p (in_first (waiting_parts host x) p h)
sent_now x _ p h = absurd (Contains-nil p h)

pub sent_parts_arrived : (S : Setting) (H : History) (p : Part) → Contains (past S H).sent p → Contains (past S H).parts p
sent_parts_arrived S [] p h = h
sent_parts_arrived S (s ∷ before) p h =
    let x = past S before in
    elim (Contains-append_cases x.sent (sent_by x s.event) p h) [
      | inl earlier ↦ Contains-append_left x.parts (parts_by S x s.event) p (sent_parts_arrived S before p earlier)
      | inr now ↦ Contains-append_left x.parts (parts_by S x s.event) p (sent_now x s.event p now)
    ]

-- In which order parts wait.
use Rattle.std.proofs.Common.{◌≡◌, ℕ, ◌+◌, ◌<◌, ◌≤◌, Bool, List, [], ◌∷◌, ◌++◌, length, filter, Contains, sym, ap, ◌∙◌, subst, inl, inr, arith}
use Rattle.std.proofs.lemmas.Bool.{cases_Bool}
use Rattle.std.proofs.lemmas.List.{length-append}
use Rattle.std.proofs.lemmas.List.Elements.{Contains-append_left, Contains-append_right, Contains-append_cases, Contains-push, Contains-push_cases}
use Rattle.list_lemmas.proofs.CallerLemmas.{Contains-nil, Contains-filter}
use Rattle.splitter.specs.Plan.{Plan, here, leave, parts}
use Rattle.proxy_history.specs.Setting.{Setting}
use Rattle.proxy_history.specs.History.{History, Step, accepted_count, plan_for}
use Rattle.proxy_history.specs.Part.{Part, Past}
use Rattle.proxy_history.specs.Past.{past, parts_in}
use Rattle.proxy_history.specs.Waiting.{waiting_parts, waits}
use Rattle.proxy_history.specs.Arrival.{parts_by, placed_by}
use Rattle.proxy_history.specs.SendingLaws.{ComesFirst}
use Rattle.proxy_history.specs.declared.event.Event.{Event}
use Rattle.proxy_history.specs.declared.event.Event.TheVariants.{Arrived}
use Rattle.proxy_history.proofs.parts.ArrivalLemmas.{IsNew, new_is, arrived_now, before-arrived_now, earlier_still, before-earlier_still, parts_have_arrived}
use Rattle.proxy_history.proofs.parts.CommandPartLemmas.{AreNumbered, placing_is_numbered}

-- each of these stands before those behind it
abbrev AreInTurn : Setting → History → List Part → Type 0
AreInTurn S H [] = Unit {0}
AreInTurn S H (p ∷ ps) = ((q : Part) → Contains ps q → ComesFirst S H p q) × AreInTurn S H ps

in_turn-filter : (S : Setting) (H : History) (f : Part → Bool) (ps : List Part) → AreInTurn S H ps
    → AreInTurn S H (filter f ps)
in_turn-filter S H f [] a = tt
in_turn-filter S H f (p ∷ ps) a = elim (cases_Bool (f p)) [
  | inl t ↦ rw t (λ q h. a.0 q (Contains-filter f ps q h), in_turn-filter S H f ps a.1)
  | inr n ↦ rw n (in_turn-filter S H f ps a.1)
]

in_turn-append : (S : Setting) (H : History) (ps qs : List Part) → AreInTurn S H ps → AreInTurn S H qs
    → ((p q : Part) → Contains ps p → Contains qs q → ComesFirst S H p q) → AreInTurn S H (ps ++ qs)
in_turn-append S H [] qs a b f = b
in_turn-append S H (p ∷ ps) qs a b f = (
  λ q h. elim (Contains-append_cases ps qs q h) [
    | inl earlier ↦ a.0 q earlier
    | inr later ↦ f p q (Contains-append_left (p ∷ []) ps p (Contains-push [] p)) later
  ],
  in_turn-append S H ps qs a.1 b (λ r q h g. f r q (Contains-append_right (p ∷ []) ps r h) g),
)

-- and they do so later
in_turn-cons : (S : Setting) (s : Step) (H : History) (ps : List Part) → AreInTurn S H ps
    → AreInTurn S (s ∷ H) ps
in_turn-cons S s H [] a = tt
in_turn-cons S s H (p ∷ ps) a = (
  λ q h.
      let c = a.0 q h in
      record {
        first = earlier_still S s H p c.first;
        second = earlier_still S s H q c.second;
        order = rw (before-earlier_still S s H p c.first, before-earlier_still S s H q c.second) c.order;
      },
  in_turn-cons S s H ps a.1,
)

-- PARTS OF ONE ARRIVAL

number_above : (n : ℕ) (ps : List Part) (q : Part) → AreNumbered n ps → Contains ps q → n ≤ q.number
number_above n [] q a h = absurd (Contains-nil q h)
number_above n (p ∷ ps) q a h = elim (Contains-append_cases (p ∷ []) ps q h) [
  | inl one ↦
      let is : p ≡ q = only one in
      omega (arith, a.0, ap (λ (z : Part). z.number) is)
  | inr more ↦ omega (arith, number_above (n + 1) ps q a.1 more)
]
  where
    only : Contains (p ∷ []) q → p ≡ q
    only one = elim (Contains-push_cases [] p q one) [ inl nothing ↦ absurd (Contains-nil q nothing) | inr is ↦ is ]

new_in_turn : (S : Setting) (H : History) (s : Step) (n : ℕ) (ps : List Part)
    → ((q : Part) → Contains ps q → IsNew S (past S H) s.event q) → AreNumbered n ps → AreInTurn S (s ∷ H) ps
new_in_turn S H s n [] new a = tt
new_in_turn S H s n (p ∷ ps) new a = (
  λ q h.
      let of_first = new p (Contains-append_left (p ∷ []) ps p (Contains-push [] p)) in
      let of_second = new q (Contains-append_right (p ∷ []) ps q h) in
      record {
        first = arrived_now S H s p of_first;
        second = arrived_now S H s q of_second;
        order = inr (before-arrived_now S H s p of_first ∙ sym (before-arrived_now S H s q of_second), omega (arith, a.0, number_above (n + 1) ps q a.1 h));
      },
  new_in_turn S H s (n + 1) ps (λ q h. new q (Contains-append_right (p ∷ []) ps q h)) a.1,
)

numbered_by_plan : (S : Setting) (x : Past) (conn : ℕ) (plan : Plan) → AreNumbered 0 (placed_by S x conn plan)
numbered_by_plan S x conn (parts how list) = placing_is_numbered S x conn (accepted_count conn x.steps) [] list tt
numbered_by_plan S x conn (here name value) = tt
numbered_by_plan S x conn (leave name value) = tt

numbered_by : (S : Setting) (x : Past) (event : Event) → AreNumbered 0 (parts_by S x event)
numbered_by S x (Arrived conn request) = numbered_by_plan S x conn (plan_for request)
numbered_by S x _ = tt

-- ALL PARTS

comes_after : (S : Setting) (H : History) (s : Step) (p q : Part) → Contains (parts_in S H) p
    → Contains (parts_by S (past S H) s.event) q → ComesFirst S (s ∷ H) p q
comes_after S H s p q h g =
    let a = parts_have_arrived S H p h in
    let earlier : length a.before < length H =
    omega (arith, ap length a.split, length-append a.later (a.step ∷ a.before)) in
    let now = new_is S (past S H) s.event q g in
    record {
      first = earlier_still S s H p a;
      second = arrived_now S H s q now;
      order = inl (rw (before-earlier_still S s H p a, before-arrived_now S H s q now) earlier);
    }

all_in_turn : (S : Setting) (H : History) → AreInTurn S H (parts_in S H)
all_in_turn S [] = tt
all_in_turn S (s ∷ before) =
    let new = parts_by S (past S before) s.event in
    in_turn-append S (s ∷ before) (parts_in S before) new (in_turn-cons S s before (parts_in S before) (all_in_turn S before))
    (new_in_turn S before s 0 new (new_is S (past S before) s.event) (numbered_by S (past S before) s.event))
    (comes_after S before s)

at_split : (S : Setting) (H : History) (front middle rest : List Part) (p q : Part)
    → AreInTurn S H (front ++ p ∷ (middle ++ q ∷ rest)) → ComesFirst S H p q
at_split S H [] middle rest p q a = a.0 q (Contains-append_right middle (q ∷ rest) q (Contains-append_left (q ∷ []) rest q (Contains-push [] q)))
at_split S H (r ∷ front) middle rest p q a = at_split S H front middle rest p q a.1

pub waiting_is_in_order : (S : Setting) (H : History) (h : ℕ) (front middle rest : List Part) (p q : Part)
    → waiting_parts h (past S H) ≡ front ++ p ∷ (middle ++ q ∷ rest) → ComesFirst S H p q
waiting_is_in_order S H h front middle rest p q e =
    at_split S H front middle rest p q (subst (AreInTurn S H) e (in_turn-filter S H (waits h (past S H)) (parts_in S H) (all_in_turn S H)))

-- What is known of a part of a legal history: its place among the parts of its command, its request, its connection.
use Rattle.std.proofs.Common.{◌≡◌, ℕ, zero, suc, ◌+◌, ◌<◌, ◌≤◌, ◌==◌, ◌&&◌, nat_lt, true, false, List, [], ◌∷◌, ◌++◌, length, filter, Option, Some, None, is_some, Contains, slice_get, option_and_then, option_map, refl, sym, ap, ◌∙◌, subst, inl, inr, arith}
use Rattle.std.proofs.lemmas.Bool.{cases_Bool, cases_lt, ltb-true, and_parts, and_from, eq-eqb, eqb-true, not-false}
use Rattle.std.proofs.lemmas.List.Elements.{filter-append}
use Rattle.list_lemmas.proofs.CallerLemmas.{slice_get-append, Contains-nil, Contains-cases, Contains-filter_passing, slice_get-member}
use Rattle.resp_core.specs.Tree.{Tree}
use Rattle.splitter.specs.Plan.{Plan, here, leave, parts}
use Rattle.splitter.specs.Join.{join_of}
use Rattle.splitter.specs.declared.plans.Join.{Join}
use Rattle.splitter.specs.declared.plans.PartPlan.{PartPlan}
use Rattle.splitter.specs.declared.request.Request.{Request}
use Rattle.proxy_history.specs.Setting.{Setting}
use Rattle.proxy_history.specs.History.{History, Step, plan_for, openings, accepted_count, handed_count, requests, request_by, is_open, is_opening}
use Rattle.proxy_history.specs.Part.{Past, Part}
use Rattle.proxy_history.specs.Past.{past, parts_in}
use Rattle.proxy_history.specs.Cause.{own_cause, causes}
use Rattle.proxy_history.specs.Arrival.{parts_placed, placed_part, placed_by, parts_by, host_for, hostless}
use Rattle.proxy_history.specs.Value.{value_of}
use Rattle.proxy_history.specs.Outcome.{parts_of, is_part_of, values_of, with_value, outcome, outcome_by}
use Rattle.proxy_history.specs.Legal.{IsLegal}
use Rattle.proxy_history.specs.declared.event.Event.{Event}
use Rattle.proxy_history.specs.declared.event.Event.TheVariants.{Arrived}
use Rattle.proxy_history.proofs.CallerLemmas.{times-cons as times_grows, first_true-none as are_false, AreOf, length-requests, AreOf-placing as placing_are_of, parts_of-after as parts_stay, number-with_host as host_keeps_number, HasArrived-parts as parts_have_arrived, IsLegal-append as beginning, filter-AreOf_other as none_of, filter-AreOf as all_of, parts_of-not_yet as not_yet, transcript-first_outcomes as in_order}

-- NUMBERS ARE PLACES

-- the parts have these numbers, one after the other
abbrev pub AreNumbered : ℕ → List Part → Type 0
AreNumbered n [] = Unit {0}
AreNumbered n (p ∷ ps) = (p.number ≡ n) × AreNumbered (n + 1) ps

numbered_with : (n k : ℕ) (ps : List Part) (q : Part) → AreNumbered n ps → k ≡ n + length ps → q.number ≡ k → AreNumbered n (ps ++ q ∷ [])
numbered_with n k [] q a l e = (omega (arith, l, e), tt)
numbered_with n k (p ∷ ps) q a l e = (a.0, numbered_with (n + 1) k ps q a.1 (omega (arith, l)) e)

placing_numbered : (S : Setting) (x : Past) (conn command : ℕ) (placed : List Part) (ps : List PartPlan) → AreNumbered 0 placed → AreNumbered 0 (parts_placed S x conn command placed ps)
placing_numbered S x conn command placed [] a = a
placing_numbered S x conn command placed (p ∷ ps) a =
    let q = placed_part S x conn command placed p in
    let n : q.number ≡ length placed = host_keeps_number x placed (host_for S x p.key) (hostless conn command (length placed) p) in
    placing_numbered S x conn command (placed ++ q ∷ []) ps (numbered_with 0 (length placed) placed q a (omega arith) n)

-- of the parts of one command all or none are kept
one_command : (c i conn command : ℕ) (ps : List Part) → AreOf conn command ps → AreNumbered 0 ps → AreNumbered 0 (filter (is_part_of c i) ps)
one_command c i conn command ps o a = elim (cases_Bool ((conn == c) && (command == i))) [
  | inl t ↦
      let b = and_parts (conn == c) (command == i) t in
      let same : filter (is_part_of c i) ps ≡ ps =
      subst (λ (z : ℕ). filter (is_part_of z i) ps ≡ ps) (eqb-true conn c b.0)
      (subst (λ (z : ℕ). filter (is_part_of conn z) ps ≡ ps) (eqb-true command i b.1) (all_of conn command ps o)) in
      subst (λ (z : List Part). AreNumbered 0 z) (sym same) a
  | inr f ↦ subst (λ (z : List Part). AreNumbered 0 z) (sym (none_of c i conn command ps f o)) tt
]

placed_numbered : (S : Setting) (x : Past) (c i conn : ℕ) (p : Plan) → AreNumbered 0 (filter (is_part_of c i) (placed_by S x conn p))
placed_numbered S x c i conn (parts how list) =
    let command = accepted_count conn x.steps in
    one_command c i conn command (parts_placed S x conn command [] list) (placing_are_of S x conn command [] list tt) (placing_numbered S x conn command [] list tt)
placed_numbered S x c i conn (here name value) = tt
placed_numbered S x c i conn (leave name value) = tt

new_numbered : (S : Setting) (x : Past) (c i : ℕ) (event : Event) → AreNumbered 0 (filter (is_part_of c i) (parts_by S x event))
new_numbered S x c i (Arrived conn request) = placed_numbered S x c i conn (plan_for request)
new_numbered S x c i _ = tt

-- the parts of a command stand in the places of their numbers
pub parts_are_numbered : (S : Setting) (H : History) (c i : ℕ) → AreNumbered 0 (parts_of c i (past S H))
parts_are_numbered S [] c i = tt
parts_are_numbered S (s ∷ H) c i = elim (cases_lt i (accepted_count c H)) [
  | inl l ↦ subst (λ (z : List Part). AreNumbered 0 z) (sym (parts_stay S (past S H) c i s l)) (parts_are_numbered S H c i)
  | inr l ↦
      let new = filter (is_part_of c i) (parts_by S (past S H) s.event) in
      let all : parts_of c i (past S (s ∷ H)) ≡ new =
      filter-append (is_part_of c i) (parts_in S H) (parts_by S (past S H) s.event) ∙ ap (λ (z : List Part). z ++ new) (not_yet S H c i l) in
      subst (λ (z : List Part). AreNumbered 0 z) (sym all) (new_numbered S (past S H) c i s.event)
]

number_in : (n : ℕ) (ps : List Part) (k : ℕ) (p : Part) → AreNumbered n ps → slice_get ps k ≡ Some p → n + k ≡ p.number
number_in n [] k p a e = absurd (cc e)
number_in n (q ∷ ps) zero p a e = let is : q ≡ p = cc in omega (arith, a.0, ap (λ (z : Part). z.number) is)
number_in n (q ∷ ps) (suc k) p a e = omega (arith, number_in (n + 1) ps k p a.1 e)

pub in_own_parts : (x : Past) (p : Part) → Contains x.parts p → Contains (parts_of p.conn p.command x) p
in_own_parts x p h = Contains-filter_passing (is_part_of p.conn p.command) x.parts p h (and_from _ _ (eq-eqb p.conn p.conn refl) (eq-eqb p.command p.command refl))

pub part_in_place : (S : Setting) (H : History) (p : Part) → Contains (past S H).parts p → slice_get (parts_of p.conn p.command (past S H)) p.number ≡ Some p
part_in_place S H p h =
    let ps = parts_of p.conn p.command (past S H) in
    let a = slice_get-member ps p (in_own_parts (past S H) p h) in
    let n : 0 + a.0 ≡ p.number = number_in 0 ps a.0 p (parts_are_numbered S H p.conn p.command) a.1 in
    subst (λ (z : ℕ). slice_get ps z ≡ Some p) (omega (arith, n)) a.1

-- THE REQUEST OF A PART

-- the request of the command is there, and hosts answer its parts
pub record IsAsked (H : History) (p : Part) : Type 0 where
  pub request : Request
  pub is_request : slice_get (requests p.conn H) p.command ≡ Some request
  pub how : Join
  pub list : List PartPlan
  pub is_split : plan_for request ≡ parts how list

at_end : {X : Type 0} (xs : List X) (y : X) (k : ℕ) → k ≡ length xs → slice_get (xs ++ y ∷ []) k ≡ Some y
at_end [] y k e = rw e refl
at_end (x ∷ xs) y zero e = absurd (omega (arith, e))
at_end (x ∷ xs) y (suc k) e = at_end xs y k (omega (arith, e))

request_stays : (c i : ℕ) (later before : History) (r : Request) → slice_get (requests c before) i ≡ Some r → slice_get (requests c (later ++ before)) i ≡ Some r
request_stays c i [] before r e = e
request_stays c i (s ∷ later) before r e = slice_get-append (requests c (later ++ before)) (request_by c s.event) i r (request_stays c i later before r e)

request_now : (c i : ℕ) (s : Step) (before : History) (r : Request) → s.event ≡ Arrived c r → i ≡ accepted_count c before → slice_get (requests c (s ∷ before)) i ≡ Some r
request_now c i s before r e l =
    let new : request_by c s.event ≡ r ∷ [] = ap (request_by c) e ∙ rw (eq-eqb c c refl) refl in
    ap (λ z. slice_get (requests c before ++ z) i) new ∙ at_end (requests c before) r i (l ∙ sym (length-requests c before))

pub part_is_asked : (S : Setting) (H : History) (p : Part) → Contains (past S H).parts p → IsAsked H p
part_is_asked S H p h =
    let a = parts_have_arrived S H p h in
    record {
      request = a.request;
      is_request = ap (λ z. slice_get (requests p.conn z) p.command) a.split
          ∙ request_stays p.conn p.command a.later (a.step ∷ a.before) a.request (request_now p.conn p.command a.step a.before a.request a.arrives a.command_is);
      how = a.how;
      list = a.list;
      is_split = a.is_split;
    }

-- THE CONNECTION OF A PART

opened_grows : (later before : History) → openings before ≤ openings (later ++ before)
opened_grows [] before = omega arith
opened_grows (s ∷ later) before = omega (arith, opened_grows later before, times_grows is_opening s (later ++ before))

arrival_is_open : (S : Setting) (x : Past) (event : Event) (c : ℕ) (r : Request) → own_cause S x event ≡ None → event ≡ Arrived c r → c < openings x.steps
arrival_is_open S x event c r n e =
    let a = are_false (causes S x (Arrived c r)) (ap (own_cause S x) (sym e) ∙ n) in
    ltb-true c (openings x.steps) (and_parts (nat_lt c (openings x.steps)) _ (not-false (is_open c x.steps) a.0)).0

-- its connection was opened
pub part_is_opened : (S : Setting) (H : History) (p : Part) → IsLegal S H → Contains (past S H).parts p → p.conn < openings H
part_is_opened S H p legal h =
    let a = parts_have_arrived S H p h in
    let l = beginning S a.later (a.step ∷ a.before) (subst (λ (z : History). IsLegal S z) a.split legal) in
    omega (
      arith,
      arrival_is_open S (past S a.before) a.step.event p.conn a.request l.1.has_no_cause a.arrives,
      opened_grows a.later (a.step ∷ a.before),
      times_grows is_opening a.step a.before,
      ap openings a.split,
    )

-- WHO HAS NO VALUE ISN'T HANDED OUT

with_none : (o : Option Tree) → with_value o None ≡ None
with_none None = refl
with_none (Some v) = refl

missing : (x : Past) (ps : List Part) (p : Part) → Contains ps p → value_of x p ≡ None → values_of x ps ≡ None
missing x [] p h e = absurd (Contains-nil p h)
missing x (q ∷ ps) p h e = elim (Contains-cases q ps p h) [
  | inl one ↦ ap (λ (z : Option Tree). with_value z (values_of x ps)) (ap (value_of x) one ∙ e)
  | inr more ↦ ap (λ (z : Option (List Tree)). with_value (value_of x q) z) (missing x ps p more e) ∙ with_none (value_of x q)
]

no_outcome : (S : Setting) (H : History) (p : Part) → Contains (past S H).parts p → value_of (past S H) p ≡ None → outcome p.conn p.command (past S H) ≡ None
no_outcome S H p h e =
    let x = past S H in
    let a = part_is_asked S H p h in
    ap (λ (o : Option Request). option_and_then (λ request. outcome_by x p.conn p.command (plan_for request)) o) a.is_request
    ∙ ap (outcome_by x p.conn p.command) a.is_split
    ∙ ap (λ (o : Option (List Tree)). option_map (join_of a.how) o) (missing x (parts_of p.conn p.command x) p (in_own_parts x p h) e)

-- a command of which a part has no value isn't handed out
pub not_handed : (S : Setting) (H : History) (p : Part) → IsLegal S H → Contains (past S H).parts p → value_of (past S H) p ≡ None → handed_count p.conn H ≤ p.command
not_handed S H p legal h e = elim (cases_lt p.command (handed_count p.conn H)) [
  | inl l ↦
      let come : is_some (outcome p.conn p.command (past S H)) ≡ true = (in_order S H p.conn legal).1.each p.command l in
      let no : false ≡ true = sym (ap is_some (no_outcome S H p h e)) ∙ come in
      absurd (cc no)
  | inr l ↦ l
]

-- The parts of a command are those of its plan, and as many are their values.
use Rattle.std.proofs.Common.{◌≡◌, ℕ, zero, suc, ◌+◌, ◌<◌, ◌≤◌, ◌==◌, ◌&&◌, ◌-◌, nat_lt, Bool, true, false, List, [], ◌∷◌, ◌++◌, length, map, filter, Option, Some, None, refl, sym, ap, ◌∙◌, subst, inl, inr, arith, if◌then◌else◌}
use Rattle.std.specs.Prelude.{option_map, slice_get, IfSome}
use Rattle.std.proofs.lemmas.Bool.{cases_Bool, eqb-true, eq-eqb, ltb-true, ltb-false}
use Rattle.std.proofs.lemmas.List.{append-nil, append_assoc, length-append, length-map, map-append}
use Rattle.std.proofs.lemmas.List.Elements.{filter-append}
use Rattle.resp_core.specs.Tree.{Tree}
use Rattle.resp_core.specs.Value.{tree_of}
use Rattle.resp_core.specs.Command.{command_of}
use Rattle.resp_core.specs.declared.value.Value.{Value}
use Rattle.splitter.specs.Plan.{Plan, here, leave, parts}
use Rattle.splitter.specs.Join.{MayJoin}
use Rattle.splitter.specs.declared.plans.Join.{Join}
use Rattle.splitter.specs.declared.plans.PartPlan.{PartPlan}
use Rattle.splitter.specs.declared.request.Request.{Request}
use Rattle.splitter.specs.declared.request.Request.TheVariants as requests'
use Rattle.splitter.proofs.CallerLemmas.{parts_are_commands}
use Rattle.proxy_history.specs.Setting.{Setting}
use Rattle.proxy_history.specs.History.{History, Step, plan_for, accepted_count, requests, request_by, is_arrival}
use Rattle.proxy_history.specs.Part.{Past, Part}
use Rattle.proxy_history.specs.Past.{past, parts_in}
use Rattle.proxy_history.specs.Value.{value_of}
use Rattle.proxy_history.specs.Arrival.{parts_placed, placed_part, placed_by, parts_by, host_for, hostless}
use Rattle.proxy_history.specs.Outcome.{parts_of, is_part_of, values_of, with_value}
use Rattle.proxy_history.specs.CommandLaws.{parts_in_plan, HasItsParts}
use Rattle.proxy_history.specs.declared.event.Event.{Event}
use Rattle.proxy_history.specs.declared.event.Event.TheVariants.{Arrived}
use Rattle.proxy_history.proofs.parts.PlacingLemmas.{length-requests, AreOf, placing_are_of, none_of, parts_stay}
use Rattle.proxy_history.proofs.parts.AreApartLemmas.{host_keeps_number}
use Rattle.proxy_history.proofs.parts.ArrivalLemmas.{text_is}

-- AS MANY AS THE PLAN HAS

pub length-placing : (S : Setting) (x : Past) (conn command : ℕ) (placed : List Part) (ps : List PartPlan) → length (parts_placed S x conn command placed ps) ≡ length placed + length ps
length-placing S x conn command placed [] = omega arith
length-placing S x conn command placed (p ∷ ps) =
    omega (arith, length-placing S x conn command (placed ++ placed_part S x conn command placed p ∷ []) ps, length-append placed (placed_part S x conn command placed p ∷ []))

pub all_of : (conn command : ℕ) (ps : List Part) → AreOf conn command ps → filter (is_part_of conn command) ps ≡ ps
all_of conn command [] a = refl
all_of conn command (p ∷ ps) (of_conn, of_command, others) =
    let f : (p.conn == conn) ≡ true = eq-eqb p.conn conn of_conn in
    let g : (p.command == command) ≡ true = eq-eqb p.command command of_command in
    rw (f, g) (ap (λ z. p ∷ z) (all_of conn command ps others))

pub are_placed : (S : Setting) (x : Past) (conn : ℕ) (list : List PartPlan) → AreOf conn (accepted_count conn x.steps) (parts_placed S x conn (accepted_count conn x.steps) [] list)
are_placed S x conn list = placing_are_of S x conn (accepted_count conn x.steps) [] list tt

-- A COMMAND THAT HASN'T ARRIVED HAS NO PARTS

one_arrival : (c : ℕ) (request : Request) (s : Step) (before : History) → s.event ≡ Arrived c request → accepted_count c (s ∷ before) ≡ accepted_count c before + 1
one_arrival c request s before e = rw (e, eq-eqb c c refl) refl

not_yet_placed : (S : Setting) (x : Past) (c i conn : ℕ) (p : Plan) → (conn ≡ c → accepted_count c x.steps ≡ i → ⊥) → filter (is_part_of c i) (placed_by S x conn p) ≡ []
not_yet_placed S x c i conn (parts how list) f =
    none_of c i conn (accepted_count conn x.steps) _ (is_other (conn == c) (accepted_count conn x.steps == i) (λ a b. let e = eqb-true conn c a in f e (sym (ap (λ z. accepted_count z x.steps) e) ∙ eqb-true _ i b))) (are_placed S x conn list)
  where
    is_other : (a b : Bool) → (a ≡ true → b ≡ true → ⊥) → (a && b) ≡ false
    is_other true true g = absurd (g refl refl)
    is_other true false g = refl
    is_other false b g = refl
not_yet_placed S x c i conn (here name value) f = refl
not_yet_placed S x c i conn (leave name value) f = refl

not_yet_by : (S : Setting) (x : Past) (c i : ℕ) (event : Event) → (is_arrival c event ≡ true → accepted_count c x.steps ≡ i → ⊥) → filter (is_part_of c i) (parts_by S x event) ≡ []
not_yet_by S x c i (Arrived conn request) f = not_yet_placed S x c i conn (plan_for request) (λ e. f (eq-eqb conn c e))
not_yet_by S x c i _ f = refl

counted_once : (b : Bool) (n i : ℕ) → (if b then n + 1 else n) ≤ i → b ≡ true → n ≡ i → ⊥
counted_once true n i l e f = omega arith
counted_once false n i l e f = absurd cc

fewer : (b : Bool) (n i : ℕ) → (if b then n + 1 else n) ≤ i → n ≤ i
fewer true n i l = omega arith
fewer false n i l = l

pub not_yet : (S : Setting) (H : History) (c i : ℕ) → accepted_count c H ≤ i → parts_of c i (past S H) ≡ []
not_yet S [] c i l = refl
not_yet S (s ∷ H) c i l =
    filter-append (is_part_of c i) (parts_in S H) (parts_by S (past S H) s.event)
    ∙ rw (not_yet S H c i (fewer (is_arrival c s.event) (accepted_count c H) i l), not_yet_by S (past S H) c i s.event (counted_once (is_arrival c s.event) (accepted_count c H) i l)) refl

-- A COMMAND HAS THE PARTS OF ITS PLAN

own_parts : (S : Setting) (x : Past) (c : ℕ) (plan : Plan)
    → filter (is_part_of c (accepted_count c x.steps)) (placed_by S x c plan) ≡ parts_placed S x c (accepted_count c x.steps) [] (parts_in_plan plan)
own_parts S x c (parts how list) = all_of c (accepted_count c x.steps) _ (are_placed S x c list)
own_parts S x c (here name value) = refl
own_parts S x c (leave name value) = refl

-- the one request that an arrival brings is that of the next command
parts_of_arrival : (S : Setting) (x : Past) (c conn : ℕ) (asked request : Request) (k : ℕ) → conn ≡ c → slice_get (asked ∷ []) k ≡ Some request
    → filter (is_part_of c (accepted_count c x.steps + k)) (placed_by S x conn (plan_for asked)) ≡ parts_placed S x c (accepted_count c x.steps + k) [] (parts_in_plan (plan_for request))
parts_of_arrival S x c conn asked request zero e f =
    let same : asked ≡ request = cc in
    let none : accepted_count c x.steps + 0 ≡ accepted_count c x.steps = omega arith in
    rw (none, e) (own_parts S x c (plan_for asked) ∙ ap (λ (r : Request). parts_placed S x c (accepted_count c x.steps) [] (parts_in_plan (plan_for r))) same)
parts_of_arrival S x c conn asked request (suc k) e f = absurd (cc f)

new_parts : (S : Setting) (x : Past) (c : ℕ) (event : Event) (request : Request) (k : ℕ) → slice_get (request_by c event) k ≡ Some request
    → filter (is_part_of c (accepted_count c x.steps + k)) (parts_by S x event) ≡ parts_placed S x c (accepted_count c x.steps + k) [] (parts_in_plan (plan_for request))
new_parts S x c (Arrived conn asked) request k e = elim (cases_Bool (conn == c)) [
  | inl t ↦ parts_of_arrival S x c conn asked request k (eqb-true conn c t) (rw t at e)
  | inr t ↦ let g = rw t at e in absurd (cc g)
]
new_parts S x c _ request k e = absurd (cc e)

slice_get-left : {X : Type 0} (xs ys : List X) (i : ℕ) → i < length xs → slice_get (xs ++ ys) i ≡ slice_get xs i
slice_get-left [] ys i l = absurd (omega (arith, l))
slice_get-left (x ∷ xs) ys zero l = refl
slice_get-left (x ∷ xs) ys (suc i) l = slice_get-left xs ys i (omega (arith, l))

slice_get-right : {X : Type 0} (xs ys : List X) (k : ℕ) → slice_get (xs ++ ys) (length xs + k) ≡ slice_get ys k
slice_get-right [] ys k = let e : 0 + k ≡ k = omega arith in ap (λ z. slice_get ys z) e
slice_get-right (x ∷ xs) ys k =
    let e : length (x ∷ xs) + k ≡ suc (length xs + k) = omega arith in
    ap (λ z. slice_get (x ∷ (xs ++ ys)) z) e ∙ slice_get-right xs ys k

-- the parts of a command are those that were placed at its arrival
parts_were_placed : (S : Setting) (H : History) (c i : ℕ) (request : Request) → slice_get (requests c H) i ≡ Some request
    → (x : Past) × (parts_of c i (past S H) ≡ parts_placed S x c i [] (parts_in_plan (plan_for request)))
parts_were_placed S [] c i request e = absurd (cc e)
parts_were_placed S (s ∷ H) c i request e = elim (cases_Bool (nat_lt i (accepted_count c H))) [
  | inl t ↦
      let l : i < accepted_count c H = ltb-true i (accepted_count c H) t in
      let a = parts_were_placed S H c i request (sym (slice_get-left (requests c H) (request_by c s.event) i (omega (arith, l, length-requests c H))) ∙ e) in
      (a.0, parts_stay S (past S H) c i s l ∙ a.1)
  | inr t ↦
      let l : accepted_count c H ≤ i = ltb-false i (accepted_count c H) t in
      let k : ℕ = i - accepted_count c H in
      let at : accepted_count c H + k ≡ i = omega (arith, l) in
      let place : length (requests c H) + k ≡ i = omega (arith, l, length-requests c H) in
      let brought : slice_get (request_by c s.event) k ≡ Some request = sym (slice_get-right (requests c H) (request_by c s.event) k) ∙ ap (λ z. slice_get (requests c H ++ request_by c s.event) z) place ∙ e in
      let now : filter (is_part_of c i) (parts_by S (past S H) s.event) ≡ parts_placed S (past S H) c i [] (parts_in_plan (plan_for request)) =
      subst (λ (z : ℕ). filter (is_part_of c z) (parts_by S (past S H) s.event) ≡ parts_placed S (past S H) c z [] (parts_in_plan (plan_for request))) at (new_parts S (past S H) c s.event request k brought) in
      (past S H, filter-append (is_part_of c i) (parts_in S H) (parts_by S (past S H) s.event) ∙ rw (not_yet S H c i l) now)
]

-- so they are as many as the plan has
pub length-parts_of : (S : Setting) (H : History) (c i : ℕ) (request : Request) (how : Join) (list : List PartPlan) → slice_get (requests c H) i ≡ Some request → plan_for request ≡ parts how list → length (parts_of c i (past S H)) ≡ length list
length-parts_of S H c i request how list e f =
    let a = parts_were_placed S H c i request e in
    let plans = parts_in_plan (plan_for request) in
    ap length a.1 ∙ length-placing S a.0 c i [] plans ∙ omega (arith, ap (λ z. length (parts_in_plan z)) f)

-- they have the plan's texts, in its order
placed_text : (S : Setting) (x : Past) (conn command : ℕ) (placed : List Part) (q : PartPlan) → (placed_part S x conn command placed q).text ≡ q.text
placed_text S x conn command placed q = text_is x placed (host_for S x q.key) (hostless conn command (length placed) q)

texts_of_placing : (S : Setting) (x : Past) (conn command : ℕ) (placed : List Part) (ps : List PartPlan)
    → map (λ (p : Part). p.text) (parts_placed S x conn command placed ps) ≡ map (λ (p : Part). p.text) placed ++ map (λ (q : PartPlan). q.text) ps
texts_of_placing S x conn command placed [] = sym (append-nil _)
texts_of_placing S x conn command placed (q ∷ ps) =
    let p = placed_part S x conn command placed q in
    texts_of_placing S x conn command (placed ++ p ∷ []) ps
    ∙ ap (λ z. z ++ map (λ (q : PartPlan). q.text) ps) (map-append (λ (p : Part). p.text) placed (p ∷ []))
    ∙ append_assoc (map (λ (p : Part). p.text) placed) (p.text ∷ []) (map (λ (q : PartPlan). q.text) ps)
    ∙ ap (λ z. map (λ (p : Part). p.text) placed ++ z ∷ map (λ (q : PartPlan). q.text) ps) (placed_text S x conn command placed q)

-- and are numbered by their places
abbrev pub AreNumbered : ℕ → List Part → Type 0
AreNumbered n [] = Unit {0}
AreNumbered n (p ∷ ps) = (p.number ≡ n) × AreNumbered (n + 1) ps

numbered_with : (n : ℕ) (ps : List Part) (q : Part) → AreNumbered n ps → q.number ≡ n + length ps → AreNumbered n (ps ++ q ∷ [])
numbered_with n [] q a e = (omega (arith, e), tt)
numbered_with n (p ∷ ps) q a e = (a.0, numbered_with (n + 1) ps q a.1 (omega (arith, e)))

pub placing_is_numbered : (S : Setting) (x : Past) (conn command : ℕ) (placed : List Part) (ps : List PartPlan) → AreNumbered 0 placed → AreNumbered 0 (parts_placed S x conn command placed ps)
placing_is_numbered S x conn command placed [] a = a
placing_is_numbered S x conn command placed (q ∷ ps) a =
    let number = host_keeps_number x placed (host_for S x q.key) (hostless conn command (length placed) q) in
    placing_is_numbered S x conn command (placed ++ placed_part S x conn command placed q ∷ []) ps
    (numbered_with 0 placed (placed_part S x conn command placed q) a (omega (arith, number)))

numbered_at : (n : ℕ) (ps : List Part) (k : ℕ) (p : Part) → AreNumbered n ps → slice_get ps k ≡ Some p → p.number ≡ n + k
numbered_at n [] k p a e = absurd cc
numbered_at n (q ∷ ps) zero p a e =
    let same : q ≡ p = cc in
    omega (arith, a.0, ap (λ (r : Part). r.number) same)
numbered_at n (q ∷ ps) (suc k) p a e = omega (arith, numbered_at (n + 1) ps k p a.1 e)

pub commands_have_their_parts : (S : Setting) (H : History) (c i : ℕ) (request : Request) → slice_get (requests c H) i ≡ Some request
    → HasItsParts (parts_of c i (past S H)) (parts_in_plan (plan_for request))
commands_have_their_parts S H c i request e =
    let a = parts_were_placed S H c i request e in
    let plans = parts_in_plan (plan_for request) in
    record {
      texts = ap (map (λ (p : Part). p.text)) a.1 ∙ texts_of_placing S a.0 c i [] plans;
      numbers = λ k p g. omega (arith, numbered_at 0 (parts_placed S a.0 c i [] plans) k p (placing_is_numbered S a.0 c i [] plans tt) (sym (ap (λ z. slice_get z k) a.1) ∙ g));
    }

-- WHAT A JOIN IS ASKED

pub plan_may_join : (r : Request) (how : Join) (list : List PartPlan) → plan_for r ≡ parts how list → MayJoin how (length list)
plan_may_join (requests'.Read v) how list e = (parts_are_commands (tree_of v) how list e).0
plan_may_join (requests'.Spelled words) how list e = (parts_are_commands (command_of words) how list e).0
plan_may_join requests'.Broken how list e = absurd (cc e)

length-values_of : (x : Past) (ps : List Part) (ts : List Tree) → values_of x ps ≡ Some ts → length ts ≡ length ps
length-values_of x [] ts e = let f : ts ≡ [] = cc in ap length f
length-values_of x (p ∷ ps) ts e = by_value (value_of x p) (values_of x ps) (length-values_of x ps) e
  where
    by_value : (o : Option Tree) (vs : Option (List Tree)) → ((us : List Tree) → vs ≡ Some us → length us ≡ length ps) → with_value o vs ≡ Some ts → length ts ≡ length (p ∷ ps)
    by_value None vs f g = absurd (cc g)
    by_value (Some v) None f g = absurd (cc g)
    by_value (Some v) (Some us) f g = let e : ts ≡ v ∷ us = cc in omega (arith, ap length e, f us refl)

-- as many values as a join is asked come of the parts of a command
pub values_may_join : (S : Setting) (H : History) (c i : ℕ) (request : Request) (how : Join) (list : List PartPlan) (ps : List Part) (x : Past) (ts : List Tree) → ps ≡ parts_in S H
    → slice_get (requests c H) i ≡ Some request → plan_for request ≡ parts how list → values_of x (filter (is_part_of c i) ps) ≡ Some ts → MayJoin how (length ts)
values_may_join S H c i request how list ps x ts e f g h =
    let count : length ts ≡ length list = length-values_of x (filter (is_part_of c i) ps) ts h ∙ ap (λ z. length (filter (is_part_of c i) z)) e ∙ length-parts_of S H c i request how list f g in
    rw count (plan_may_join request how list g)

pub if_some_may_join : {V : Type 0} (items : V → List Value) (how : Join) (vs : Option (List Tree)) (o : Option V) → option_map (λ v. map tree_of (items v)) o ≡ vs
    → ((ts : List Tree) → vs ≡ Some ts → MayJoin how (length ts)) → IfSome o (λ v. MayJoin how (length (items v)))
if_some_may_join items how vs None e f = tt
if_some_may_join items how vs (Some v) e f = subst (λ (n : ℕ). MayJoin how n) (length-map (items v) tree_of) (f (map tree_of (items v)) (sym e))

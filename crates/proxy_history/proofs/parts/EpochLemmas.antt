-- No part is of an epoch to come.
use Rattle.std.proofs.Common.{◌≡◌, ℕ, ◌≤◌, true, List, [], ◌∷◌, ◌++◌, length, Option, Some, None, refl, ap, arith}
use Rattle.std.proofs.lemmas.Bool.{eqb-true}
use Rattle.proxy_history.specs.Setting.{Setting}
use Rattle.splitter.specs.Plan.{Plan, here, leave, parts}
use Rattle.splitter.specs.declared.plans.PartPlan.{PartPlan}
use Rattle.proxy_history.specs.History.{plan_for, History, epoch, accepted_count, is_fault, Step}
use Rattle.proxy_history.specs.Part.{Past, Part, is_host}
use Rattle.proxy_history.specs.Past.{past}
use Rattle.proxy_history.specs.Waiting.{waiting_parts}
use Rattle.proxy_history.specs.Arrival.{parts_by, placed_by, parts_placed, placed_part, with_host, host_for, hostless}
use Rattle.proxy_history.specs.declared.answer.Answer.{Answer}
use Rattle.proxy_history.specs.declared.event.Kind.{Kind}
use Rattle.proxy_history.specs.declared.event.Event.{Event}
use Rattle.proxy_history.specs.declared.event.Event.TheVariants.{Arrived, Failed}
use Rattle.proxy_history.proofs.GrowthLemmas.{times_grows}
use Rattle.proxy_history.proofs.sending.WaitingStepLemmas.{AreOfPast}
use Rattle.proxy_history.proofs.parts.AreApartLemmas.{after_failed}

pub of_past_grows : (s : Step) (H : History) (ps : List Part) → AreOfPast H ps → AreOfPast (s ∷ H) ps
of_past_grows s H [] a = tt
of_past_grows s H (p ∷ ps) a = (λ h e. omega (arith, a.0 h e, times_grows (is_fault h) s H), of_past_grows s H ps a.1)

pub of_past_both : (H : History) (ps qs : List Part) → AreOfPast H ps → AreOfPast H qs → AreOfPast H (ps ++ qs)
of_past_both H [] qs a b = b
of_past_both H (p ∷ ps) qs a b = (a.0, of_past_both H ps qs a.1 b)

part_of_past : (x : Past) (placed : List Part) (o : Option ℕ) (p : Part) → p.host ≡ None → (h : ℕ) → is_host h (with_host x placed o p).host ≡ true → (with_host x placed o p).epoch ≤ epoch h x.steps
part_of_past x placed None p n h e = let f : is_host h None ≡ true = rw (n) at e in absurd cc
part_of_past x placed (Some k) p n h e = omega (arith, ap (λ j. epoch j x.steps) (eqb-true k h e))

placing_of_past : (S : Setting) (x : Past) (conn command : ℕ) (placed : List Part) (ps : List PartPlan) → AreOfPast x.steps placed → AreOfPast x.steps (parts_placed S x conn command placed ps)
placing_of_past S x conn command placed [] a = a
placing_of_past S x conn command placed (p ∷ ps) a =
    placing_of_past S x conn command (placed ++ placed_part S x conn command placed p ∷ []) ps
    (of_past_both x.steps placed (placed_part S x conn command placed p ∷ []) a
    (part_of_past x placed (host_for S x p.key) (hostless conn command (length placed) p) refl, tt))

placed_of_past : (S : Setting) (x : Past) (conn : ℕ) (p : Plan) → AreOfPast x.steps (placed_by S x conn p)
placed_of_past S x conn (parts how list) = placing_of_past S x conn (accepted_count conn x.steps) [] list tt
placed_of_past S x conn (here name value) = tt
placed_of_past S x conn (leave name value) = tt

pub new_of_past : (S : Setting) (x : Past) (event : Event) → AreOfPast x.steps (parts_by S x event)
new_of_past S x (Arrived conn request) = placed_of_past S x conn (plan_for request)
new_of_past S x _ = tt

pub are_of_past : (S : Setting) (H : History) → AreOfPast H (past S H).parts
are_of_past S [] = tt
are_of_past S (s ∷ before) =
    of_past_both (s ∷ before) (past S before).parts (parts_by S (past S before) s.event)
    (of_past_grows s before (past S before).parts (are_of_past S before))
    (of_past_grows s before (parts_by S (past S before) s.event) (new_of_past S (past S before) s.event))

-- after a fault nothing of its host waits
pub fault_empties : (S : Setting) (H : History) (h pass e t : ℕ) (kind : Kind) (answer : Answer)
    → waiting_parts h (past S (record { pass = pass; event = Failed h e kind t; answer = answer } ∷ H)) ≡ []
fault_empties S H h pass e t kind answer = after_failed S h pass e t kind answer (past S H) (are_of_past S H)

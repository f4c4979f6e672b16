-- The outcome of a command is what its plan asks.
use Rattle.std.proofs.Common.{◌≡◌, ◌↔◌, ℕ, List, [], ◌∷◌, map, Option, Some, None, refl, sym, ap, ◌∙◌}
use Rattle.std.specs.List.{slice_get}
use Rattle.std.specs.Prelude.{option_map}
use Rattle.std.specs.Option.{option_and_then}
use Rattle.resp_core.specs.Tree.{Tree}
use Rattle.splitter.specs.Plan.{Plan, here, leave, parts}
use Rattle.splitter.specs.Join.{join_of}
use Rattle.splitter.specs.declared.plans.Join.{Join}
use Rattle.splitter.specs.declared.request.Request.{Request}
use Rattle.proxy_history.specs.Setting.{Setting}
use Rattle.proxy_history.specs.History.{History, plan_for, requests}
use Rattle.proxy_history.specs.Part.{Part, Past}
use Rattle.proxy_history.specs.Past.{past}
use Rattle.proxy_history.specs.Value.{value_of}
use Rattle.proxy_history.specs.Outcome.{with_value, values_of, parts_of, outcome_by, outcome}
use Rattle.proxy_history.specs.CommandLaws.{IsJoin, IsPlanned, IsOutcome}

-- VALUES OF ALL PARTS

each_has : (x : Past) (ps : List Part) (vs : List Tree) → values_of x ps ≡ Some vs
    → map (value_of x) ps ≡ map Some vs
each_has x [] vs e = let f : vs ≡ [] = cc in ap (map Some) (sym f)
each_has x (p ∷ ps) vs e = by_value (value_of x p) (values_of x ps) (each_has x ps) e
  where
    by_value : (o : Option Tree) (os : Option (List Tree))
        → ((us : List Tree) → os ≡ Some us → map (value_of x) ps ≡ map Some us) → with_value o os ≡ Some vs
        → o ∷ map (value_of x) ps ≡ map Some vs
    by_value None os f g = absurd (cc g)
    by_value (Some v) None f g = absurd (cc g)
    by_value (Some v) (Some us) f g =
        let is : v ∷ us ≡ vs = cc in
        ap (λ z. Some v ∷ z) (f us refl) ∙ ap (map Some) is

all_have : (x : Past) (ps : List Part) (vs : List Tree) → map (value_of x) ps ≡ map Some vs
    → values_of x ps ≡ Some vs
all_have x [] [] e = refl
all_have x [] (v ∷ vs) e = absurd (cc e)
all_have x (p ∷ ps) [] e = absurd (cc e)
all_have x (p ∷ ps) (v ∷ vs) e =
    let first : value_of x p ≡ Some v = cc in
    let rest : map (value_of x) ps ≡ map Some vs = cc in
    rw (first, all_have x ps vs rest) refl

-- BY THE PLAN

joined : (x : Past) (ps : List Part) (how : Join) (v : Tree) (os : Option (List Tree)) → values_of x ps ≡ os
    → option_map (join_of how) os ≡ Some v → IsJoin x ps how v
joined x ps how v None q e = absurd (cc e)
joined x ps how v (Some vs) q e =
    let is : join_of how vs ≡ v = cc in
    record { values = vs; each = each_has x ps vs q; joined = sym is }

planned : (x : Past) (c i : ℕ) (v : Tree) (p : Plan) → outcome_by x c i p ≡ Some v
    → IsPlanned x (parts_of c i x) p v
planned x c i v (here name t) e = let is : t ≡ v = cc in sym is
planned x c i v (leave name t) e = let is : t ≡ v = cc in sym is
planned x c i v (parts how list) e = joined x (parts_of c i x) how v (values_of x (parts_of c i x)) refl e

as_planned : (x : Past) (c i : ℕ) (v : Tree) (p : Plan) → IsPlanned x (parts_of c i x) p v
    → outcome_by x c i p ≡ Some v
as_planned x c i v (here name t) a = ap (λ z. Some z) (sym a)
as_planned x c i v (leave name t) a = ap (λ z. Some z) (sym a)
as_planned x c i v (parts how list) a = rw (all_have x (parts_of c i x) a.values a.each) (ap (λ z. Some z) (sym a.joined))

is_outcome : (x : Past) (c i : ℕ) (v : Tree) (o : Option Request) → slice_get (requests c x.steps) i ≡ o
    → option_and_then (λ request. outcome_by x c i (plan_for request)) o ≡ Some v → IsOutcome x c i v
is_outcome x c i v None q e = absurd (cc e)
is_outcome x c i v (Some request) q e = record { request = request; asked = q; planned = planned x c i v (plan_for request) e }

outcome_is : (x : Past) (c i : ℕ) (v : Tree) → IsOutcome x c i v → outcome c i x ≡ Some v
outcome_is x c i v a = rw (a.asked) (as_planned x c i v (plan_for a.request) a.planned)

pub outcomes_are_as_planned : (S : Setting) (H : History) (c i : ℕ) (v : Tree)
    → (outcome c i (past S H) ≡ Some v) ↔ IsOutcome (past S H) c i v
outcomes_are_as_planned S H c i v = (is_outcome (past S H) c i v (slice_get (requests c H) i) refl, outcome_is (past S H) c i v)

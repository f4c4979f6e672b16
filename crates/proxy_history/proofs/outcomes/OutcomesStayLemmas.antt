-- The outcome of a command stays as it is.
use Rattle.std.proofs.Common.{◌≡◌, ℕ, ◌<◌, List, [], ◌∷◌, ◌++◌, Option, Some, None, refl, arith}
use Rattle.std.specs.List.{slice_get}
use Rattle.std.specs.Option.{option_and_then}
use Rattle.std.proofs.lemmas.Option.{slice_get_within}
use Rattle.list_lemmas.proofs.CallerLemmas.{slice_get-append}
use Rattle.resp_core.specs.Tree.{Tree}
use Rattle.proxy_history.specs.Setting.{Setting}
use Rattle.splitter.specs.Plan.{Plan, here, leave, parts}
use Rattle.proxy_history.specs.History.{plan_for, History, accepted_count, requests, request_by, Step}
use Rattle.splitter.specs.Join.{join_of}
use Rattle.proxy_history.specs.Part.{Past, Part}
use Rattle.proxy_history.specs.Past.{past, after}
use Rattle.proxy_history.specs.Value.{value_of}
use Rattle.proxy_history.specs.Outcome.{with_value, values_of, parts_of, outcome_by, outcome}
use Rattle.proxy_history.specs.Cause.{own_cause}
use Rattle.proxy_history.specs.Legal.{IsLegal}
use Rattle.splitter.specs.declared.request.Request.{Request}
use Rattle.proxy_history.proofs.parts.PlacingLemmas.{length-requests, parts_stay}
use Rattle.proxy_history.proofs.outcomes.ValueLemmas.{value_stays, option_map_stays}

with_value_stays : (a a' : Option Tree) (b b' : Option (List Tree)) (vs : List Tree)
    → ((v : Tree) → a ≡ Some v → a' ≡ Some v) → ((ws : List Tree) → b ≡ Some ws → b' ≡ Some ws) → with_value a b ≡ Some vs → with_value a' b' ≡ Some vs
with_value_stays None a' b b' vs f g e = absurd cc
with_value_stays (Some v) a' None b' vs f g e = absurd cc
with_value_stays (Some v) a' (Some ws) b' vs f g e = rw (f v refl, g ws refl) e

values_stay : (S : Setting) (x : Past) (s : Step) → own_cause S x s.event ≡ None → (ps : List Part) (vs : List Tree) → values_of x ps ≡ Some vs → values_of (after S s x) ps ≡ Some vs
values_stay S x s n [] vs e = e
values_stay S x s n (p ∷ ps) vs e =
    with_value_stays (value_of x p) (value_of (after S s x) p) (values_of x ps) (values_of (after S s x) ps) vs (value_stays S x s n p) (values_stay S x s n ps) e

outcome_by_stays : (S : Setting) (x : Past) (s : Step) (c i : ℕ) (v : Tree) → own_cause S x s.event ≡ None → i < accepted_count c x.steps
    → (p : Plan) → outcome_by x c i p ≡ Some v → outcome_by (after S s x) c i p ≡ Some v
outcome_by_stays S x s c i v n l (here name value) e = e
outcome_by_stays S x s c i v n l (leave name value) e = e
outcome_by_stays S x s c i v n l (parts how list) e =
    rw (parts_stay S x c i s l)
    (option_map_stays (join_of how) (values_of x (parts_of c i x)) (values_of (after S s x) (parts_of c i x)) v (values_stay S x s n (parts_of c i x)) e)

by_request : (S : Setting) (x : Past) (s : Step) (c i : ℕ) (v : Tree) → own_cause S x s.event ≡ None → (o : Option Request) → slice_get (requests c x.steps) i ≡ o
    → option_and_then (λ request. outcome_by x c i (plan_for request)) o ≡ Some v → outcome c i (after S s x) ≡ Some v
by_request S x s c i v n None q e = absurd cc
by_request S x s c i v n (Some request) q e =
    let l : i < accepted_count c x.steps = omega (arith, slice_get_within (requests c x.steps) i request q, length-requests c x.steps) in
    rw (slice_get-append (requests c x.steps) (request_by c s.event) i request q) (outcome_by_stays S x s c i v n l (plan_for request) e)

-- one more step
pub outcome_stays : (S : Setting) (x : Past) (s : Step) (c i : ℕ) (v : Tree) → own_cause S x s.event ≡ None → outcome c i x ≡ Some v → outcome c i (after S s x) ≡ Some v
outcome_stays S x s c i v n e = by_request S x s c i v n (slice_get (requests c x.steps) i) refl e

pub stays : (S : Setting) (later before : History) (c i : ℕ) (v : Tree) → IsLegal S (later ++ before) → outcome c i (past S before) ≡ Some v → outcome c i (past S (later ++ before)) ≡ Some v
stays S [] before c i v p e = e
stays S (s ∷ later) before c i v p e = outcome_stays S (past S (later ++ before)) s c i v p.1.has_no_cause (stays S later before c i v p.0 e)

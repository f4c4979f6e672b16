-- What a command comes to: the parts of its plan, and of their values its outcome.
use Rattle.std.specs.Prelude.{◌≡◌, ◌↔◌, ℕ, List, [], Some, map}
use Rattle.std.specs.List.{slice_get}
use Rattle.resp_core.specs.Tree.{Tree}
use Rattle.splitter.specs.Plan.{Plan, here, leave, parts}
use Rattle.splitter.specs.Join.{join_of}
use Rattle.splitter.specs.declared.plans.Join.{Join}
use Rattle.splitter.specs.declared.plans.PartPlan.{PartPlan}
use Rattle.splitter.specs.declared.request.Request.{Request}
use Rattle.proxy_history.specs.Setting.{Setting}
use Rattle.proxy_history.specs.History.{History, plan_for, requests}
use Rattle.proxy_history.specs.Part.{Part, Past}
use Rattle.proxy_history.specs.Past.{past}
use Rattle.proxy_history.specs.Value.{value_of}
use Rattle.proxy_history.specs.Outcome.{parts_of, outcome}

-- the parts that a plan asks of hosts, in their order
abbrev pub parts_in_plan : Plan → List PartPlan
parts_in_plan (here name value) = []
parts_in_plan (leave name value) = []
parts_in_plan (parts how list) = list

-- The parts of the command are these, all of them and in their order: they have these texts, and are numbered by their
-- places.
pub record HasItsParts (ps : List Part) (plans : List PartPlan) : Type 0 where
  pub texts : map (λ (p : Part). p.text) ps ≡ map (λ (q : PartPlan). q.text) plans
  pub numbers : (k : ℕ) (p : Part) → slice_get ps k ≡ Some p → p.number ≡ k

-- a command has the parts of its plan
abbrev pub CommandsHaveTheirParts : Type 0
CommandsHaveTheirParts = (S : Setting) (H : History) (c i : ℕ) (request : Request)
    → slice_get (requests c H) i ≡ Some request
    → HasItsParts (parts_of c i (past S H)) (parts_in_plan (plan_for request))

-- each of the parts has a value, and this is the join of these values in the order of the parts
pub record IsJoin (x : Past) (ps : List Part) (how : Join) (v : Tree) : Type 0 where
  pub values : List Tree
  pub each : map (value_of x) ps ≡ map Some values
  pub joined : v ≡ join_of how values

-- what a plan asks of the outcome of its command: it is the proxy's own answer, or the join of the values of its parts
abbrev pub IsPlanned : Past → List Part → Plan → Tree → Type 0
IsPlanned x ps (here name t) v = v ≡ t
IsPlanned x ps (leave name t) v = v ≡ t
IsPlanned x ps (parts how list) v = IsJoin x ps how v

-- the command arrived, and this is what its plan asks
pub record IsOutcome (x : Past) (c i : ℕ) (v : Tree) : Type 0 where
  pub request : Request
  pub asked : slice_get (requests c x.steps) i ≡ Some request
  pub planned : IsPlanned x (parts_of c i x) (plan_for request) v

-- A command has an outcome exactly where its plan is an answer of the proxy's own, or each of its parts has a value: that
-- answer, or the join of those values.
abbrev pub OutcomesAreAsPlanned : Type 0
OutcomesAreAsPlanned = (S : Setting) (H : History) (c i : ℕ) (v : Tree)
    → (outcome c i (past S H) ≡ Some v) ↔ IsOutcome (past S H) c i v

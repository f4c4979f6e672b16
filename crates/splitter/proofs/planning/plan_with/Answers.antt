use Rattle.std.proofs.Common.{◌≡◌, IfOk, sym, ap, ◌∙◌, subst}
use Rattle.resp_core.specs.Tree.{fault}
use Rattle.splitter.specs.Planned.{planned_in}
use Rattle.splitter.specs.Plan.{Plan, leave, plan_of}
use Rattle.splitter.specs.Request.{request_of}
use Rattle.splitter.specs.declared.plans.Local.TheVariants.{Broken}
use Rattle.splitter.proofs.planning.plan_with.Goals as goal

pub returns-in-Read-clause-plan : goal.returns-in-Read-clause-plan
returns-in-Read-clause-plan c =
    subst (λ (z : Plan). IfOk c.plan_value.result (λ a. planned_in a ≡ z)) (ap (λ z. plan_of (request_of z)) (sym c.in-Read.is)) c.plan_value.ensures.plan

pub returns-in-Spelled-clause-plan : goal.returns-in-Spelled-clause-plan
returns-in-Spelled-clause-plan c =
    subst (λ (z : Plan). IfOk c.plan_spelled.result (λ a. planned_in a ≡ z)) (ap (λ z. plan_of (request_of z)) (sym c.in-Spelled.is)) c.plan_spelled.ensures.plan

pub returns-in-Broken-clause-plan : goal.returns-in-Broken-clause-plan
returns-in-Broken-clause-plan c =
    ap (λ text. leave Broken (fault text)) c.from_static.ensures ∙ ap (λ r. plan_of (request_of r)) (sym c.in-Broken.is)

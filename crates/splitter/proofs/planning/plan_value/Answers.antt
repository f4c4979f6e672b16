use Rattle.std.proofs.Common.{◌≡◌, IfOk, sym, subst}
use Rattle.resp_core.specs.Value.{tree_of}
use Rattle.splitter.specs.Planned.{planned_in}
use Rattle.splitter.specs.Plan.{Plan}
use Rattle.splitter.proofs.PlanLemmas.{plan_of-command}
use Rattle.splitter.proofs.planning.plan_value.Goals as goal

pub returns-in-Some-clause-plan : goal.returns-in-Some-clause-plan
returns-in-Some-clause-plan c =
    let (is_command, _, is_array) = rw c.in-Some.is at c.words.ensures.command in
    subst (λ (z : Plan). IfOk c.plan_command.result (λ a. planned_in a ≡ z)) (sym (plan_of-command (tree_of c.args.value.now) c.in-Some.words.now is_command is_array)) c.plan_command.ensures.plan

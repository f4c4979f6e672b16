use Rattle.std.proofs.lemmas.Result.{IfOk-weaker}
use Rattle.splitter.specs.Planned.{planned_in}
use Rattle.proxy_history.specs.Past.{past}
use Rattle.proxy_core.specs.Machine.{setting_in, history_in}
use Rattle.proxy_core.proofs.arrivals.TellsLemmas.{ready_accepts, ready_pipelines, ready_tells, may_join_all, accepted_before}
use Rattle.proxy_core.proofs.machine.Machine.accept.Goals as goal

pub accept_plan-requires-clause-pipelines : goal.accept_plan-requires-clause-pipelines
accept_plan-requires-clause-pipelines c =
    let now = c.ready_to_arrive.new.self in
    ready_pipelines c.args.self.now now c.args.conn c.args.request.now c.requires.kept c.in_ok-plan.ensures.ready

pub accept_plan-requires-clause-open : goal.accept_plan-requires-clause-open
accept_plan-requires-clause-open c =
    ready_accepts c.args.self.now c.ready_to_arrive.new.self c.args.conn c.args.request.now c.requires.kept c.in_ok-plan.ensures.ready

pub accept_plan-requires-clause-join : goal.accept_plan-requires-clause-join
accept_plan-requires-clause-join c =
    may_join_all c.args.self.now c.ready_to_arrive.new.self c.args.conn c.args.request.now (planned_in c.in_ok-plan.plan) c.in_ok-plan.ensures.plan c.in_ok-plan.ensures.ready

pub returns-clause-accepted : goal.returns-clause-accepted
returns-clause-accepted c =
    let m = c.args.self.now in
    let now = c.ready_to_arrive.new.self in
    let request = c.args.request.now in
    let ready = c.in_ok-plan.ensures.ready in
    let x = past (setting_in m) (history_in m) in
    IfOk-weaker c.accept_plan.result _ _
    (λ a is. accepted_before m now c.accept_plan.new.self c.args.conn request (planned_in c.in_ok-plan.plan) x a c.in_ok-plan.ensures.plan ready
    (is x (ready_tells m now c.args.conn request c.requires.kept ready)))
    c.accept_plan.ensures.accepted

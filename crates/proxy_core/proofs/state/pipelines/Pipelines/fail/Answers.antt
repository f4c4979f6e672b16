use Rattle.std.proofs.Common.{map, ap, ◌∙◌, arith}
use Rattle.std.proofs.lemmas.Result.{IfOk-weaker, on_ok_weaker, on_err_weaker}
use Rattle.upstream_pipe.specs.Pipe.{owner_in}
use Rattle.proxy_core.specs.Pipelines.{PipelineState, state_of, failed_pipeline}
use Rattle.proxy_core.proofs.pipelines.PipelineTableLemmas.{length-table, state_shown, states_changed, states_same}
use Rattle.proxy_core.proofs.pipelines.StateOfLemmas.{state_of-fault}
use Rattle.proxy_core.proofs.state.pipelines.Pipelines.fail.Goals as goal

pub index_mut-requires : goal.index_mut-requires
index_mut-requires c = omega (arith, c.requires.host, length-table c.self.inside.by_host.items c.args.self.now c.self.view_is, c.self.inside.by_host.ok.0)

pub returns-clause-flying : goal.returns-clause-flying
returns-clause-flying c =
    IfOk-weaker c.fault.result _ _ (λ lost e. e ∙ ap (λ (q : PipelineState). q.flying) (state_shown c.self.inside.by_host.items c.args.self.now c.args.host c.index_mut.result.now c.self.view_is c.requires.host c.index_mut.ensures.value)) c.fault.ensures.flying

pub returns-clause-waiting : goal.returns-clause-waiting
returns-clause-waiting c =
    IfOk-weaker c.fault.result _ _ (λ lost e. e ∙ ap (λ (q : PipelineState). map owner_in q.waiting) (state_shown c.self.inside.by_host.items c.args.self.now c.args.host c.index_mut.result.now c.self.view_is c.requires.host c.index_mut.ensures.value)) c.fault.ensures.waiting

pub returns-clause-failed : goal.returns-clause-failed
returns-clause-failed c =
    on_ok_weaker c.fault.result (λ e. rw (← c.self.view_is) (states_changed failed_pipeline c.self.inside.by_host.items c.args.host c.index_mut.result.now c.fault.new.self c.index_mut.result.now c.index_mut.ensures.value e))
    (state_of-fault c.fault.result c.index_mut.result.now c.fault.new.self c.fault.ensures.empty c.fault.ensures.epoch c.fault.ensures.taken)

pub returns-clause-err : goal.returns-clause-err
returns-clause-err c =
    on_err_weaker c.fault.result (λ e. rw (← c.self.view_is) (states_same c.self.inside.by_host.items c.args.host c.index_mut.result.now c.fault.new.self c.index_mut.result.now c.index_mut.ensures.value (ap state_of e))) c.fault.ensures.err

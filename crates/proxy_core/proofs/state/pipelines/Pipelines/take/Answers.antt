use Rattle.std.proofs.Common.{◌<◌, ◌+◌, ◌^◌, slice_get, ap, ◌∙◌, arith}
use Rattle.std.proofs.lemmas.Option.{IfSome_then}
use Rattle.proxy_core.specs.Pipelines.{PipelineState, taken_from}
use Rattle.proxy_core.proofs.pipelines.PipelineTableLemmas.{length-table, state_shown, states_changed, states_same}
use Rattle.proxy_core.proofs.pipelines.StateOfLemmas.{state_of-take, oldest-take, same-take}
use Rattle.proxy_core.proofs.state.pipelines.Pipelines.take.Goals as goal

pub index_mut-requires : goal.index_mut-requires
index_mut-requires c = omega (arith, c.requires.host, length-table c.self.inside.by_host.items c.args.self.now c.self.view_is, c.self.inside.by_host.ok.0)

pub returns-clause-part : goal.returns-clause-part
returns-clause-part c =
    oldest-take c.take.result c.index_mut.result.now c.take.new.self c.take.ensures.none c.take.ensures.waiting
    ∙ ap (λ (q : PipelineState). slice_get q.waiting 0) (state_shown c.self.inside.by_host.items c.args.self.now c.args.host c.index_mut.result.now c.self.view_is c.requires.host c.index_mut.ensures.value)

pub returns-clause-taken : goal.returns-clause-taken
returns-clause-taken c =
    let its = state_shown c.self.inside.by_host.items c.args.self.now c.args.host c.index_mut.result.now c.self.view_is c.requires.host c.index_mut.ensures.value in
    let few : c.index_mut.result.now.taken + 1 < 2 ^ 64 = omega (arith, c.requires.taken, ap (λ (q : PipelineState). q.taken) its) in
    IfSome_then c.take.result
    (state_of-take c.take.result c.index_mut.result.now c.take.new.self c.take.ensures.waiting c.take.ensures.flying c.take.ensures.epoch c.take.ensures.taken few)
    (λ part e. rw (← c.self.view_is) (states_changed taken_from c.self.inside.by_host.items c.args.host c.index_mut.result.now c.take.new.self c.index_mut.result.now c.index_mut.ensures.value e))

pub returns-clause-none : goal.returns-clause-none
returns-clause-none c =
    same-take c.take.result c.index_mut.result.now c.take.new.self _ c.take.ensures.none
    (λ e. rw (← c.self.view_is) (states_same c.self.inside.by_host.items c.args.host c.index_mut.result.now c.take.new.self c.index_mut.result.now c.index_mut.ensures.value e))

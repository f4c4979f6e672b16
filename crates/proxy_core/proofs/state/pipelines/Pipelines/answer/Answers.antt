use Rattle.std.proofs.Common.{arith}
use Rattle.proxy_core.specs.Pipelines.{answered_by}
use Rattle.proxy_core.proofs.pipelines.PipelineTableLemmas.{length-table, states_changed}
use Rattle.proxy_core.proofs.pipelines.StateOfLemmas.{state_of-answered}
use Rattle.proxy_core.proofs.state.pipelines.Pipelines.answer.Goals as goal

pub index_mut-requires : goal.index_mut-requires
index_mut-requires c = omega (arith, c.requires.host, length-table c.self.inside.by_host.items c.args.self.now c.self.view_is, c.self.inside.by_host.ok.0)

pub returns-clause-answered : goal.returns-clause-answered
returns-clause-answered c =
    rw (← c.self.view_is) (states_changed answered_by c.self.inside.by_host.items c.args.host c.index_mut.result.now c.answered.new.self c.index_mut.result.now c.index_mut.ensures.value
    (state_of-answered c.index_mut.result.now c.answered.new.self c.in-Ok.owner c.answered.ensures.waiting c.in-Ok.ensures.flying c.answered.ensures.epoch c.answered.ensures.taken))

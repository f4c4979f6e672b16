use Rattle.std.proofs.Common.{arith}
use Rattle.proxy_core.specs.Pipelines.{without_connection}
use Rattle.proxy_core.proofs.pipelines.PipelineTableLemmas.{length-table, states_changed}
use Rattle.proxy_core.proofs.pipelines.StateOfLemmas.{state_of-forget}
use Rattle.proxy_core.proofs.state.pipelines.Pipelines.forget_at.Goals as goal

pub index_mut-requires : goal.index_mut-requires
index_mut-requires c = omega (arith, c.requires, length-table c.self.inside.by_host.items c.args.self.now c.self.view_is, c.self.inside.by_host.ok.0)

pub returns : goal.returns
returns c =
    rw (← c.self.view_is) (states_changed (without_connection c.args.conn) c.self.inside.by_host.items c.args.host c.index_mut.result.now c.forget.new.self c.index_mut.result.now c.index_mut.ensures.value
    (state_of-forget c.index_mut.result.now c.forget.new.self c.args.conn c.forget.ensures.waiting c.forget.ensures.flying c.forget.ensures.epoch c.forget.ensures.taken))

use Rattle.std.proofs.Common.{ap, ◌∙◌, arith}
use Rattle.proxy_core.specs.Pipelines.{PipelineState}
use Rattle.proxy_core.proofs.pipelines.PipelineTableLemmas.{length-table, state_shown}
use Rattle.proxy_core.proofs.state.pipelines.Pipelines.taken.Goals as goal

pub index-requires : goal.index-requires
index-requires c = omega (arith, c.requires, length-table c.self.inside.by_host.items c.args.self.now c.self.view_is, c.self.inside.by_host.ok.0)

pub returns : goal.returns
returns c =
    c.taken.ensures ∙ ap (λ (q : PipelineState). q.taken) (state_shown c.self.inside.by_host.items c.args.self.now c.args.host c.index.result.now c.self.view_is c.requires c.index.ensures)

use Rattle.std.proofs.Common.{◌∙◌}
use Rattle.proxy_core.proofs.pipelines.PipelineTableLemmas.{length-table}
use Rattle.proxy_core.proofs.state.pipelines.Pipelines.len.Goals as goal

pub returns : goal.returns
returns c = c.len.ensures ∙ c.self.inside.by_host.ok.0 ∙ length-table c.self.inside.by_host.items c.args.self.now c.self.view_is

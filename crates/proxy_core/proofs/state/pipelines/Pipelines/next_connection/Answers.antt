use Rattle.std.proofs.Common.{arith}
use Rattle.proxy_core.proofs.pipelines.PipelineTableLemmas.{length-table}
use Rattle.proxy_core.proofs.state.pipelines.Pipelines.next_connection.Goals as goal

pub index-requires : goal.index-requires
index-requires c = omega (arith, c.requires, length-table c.self.inside.by_host.items c.args.self.now c.self.view_is, c.self.inside.by_host.ok.0)

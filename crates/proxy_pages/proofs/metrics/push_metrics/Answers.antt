use Rattle.std.proofs.Common.{List, ℕ}
use Rattle.proxy_pages.specs.declared.metric.Metric.{Metric}
use Rattle.proxy_pages.specs.Pages.{metric_text}
use Rattle.proxy_pages.specs.Table.{row_of}
use Rattle.proxy_pages.proofs.TextLemmas.{concat_more, grown}
use Rattle.proxy_pages.proofs.metrics.push_metrics.Goals as goal

pub loop-metric-preserved : goal.loop-metric-preserved
loop-metric-preserved c =
    let text : Metric → List ℕ = λ m. metric_text c.args.about.now c.args.snapshot.now (row_of m) in
    grown _ _ _ _ _ _ c.loop-metric.invariant c.in_ok-push.ensures (concat_more text c.args.metrics.now c.loop-metric.metric-index _ c.loop-metric-test.true)

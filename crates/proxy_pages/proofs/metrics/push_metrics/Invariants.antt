use Rattle.std.proofs.Common.{◌≡◌, ◌++◌, map, take}
use Rattle.std.specs.List.{concat}
use Rattle.proxy_pages.specs.Pages.{metric_text}
use Rattle.proxy_pages.specs.Table.{row_of}
use Rattle.proxy_pages.proofs.metrics.push_metrics.Given as goal

-- the metrics so far were appended
abbrev pub invariant-loop-metric : goal.invariant-loop-metric
invariant-loop-metric l = l.page.items ≡ l.fn.page.items ++ concat (map (λ m. metric_text l.about l.snapshot (row_of m)) (take l.metric-index l.metrics))

use Rattle.proxy_pages.proofs.TextLemmas.{four}
use Rattle.proxy_pages.proofs.metrics.push_histogram_of.Goals as goal

pub returns : goal.returns
returns c = four _ _ _ _ _ _ _ _ _ _ c.in_ok-push_host_bounds.ensures c.in_ok-push_last_host_bound.ensures c.in_ok-push_host_sum.ensures
    c.push_host_count.ensures

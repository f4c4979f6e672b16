use Rattle.proxy_pages.proofs.TextLemmas.{four}
use Rattle.proxy_pages.proofs.metrics.push_durations.Goals as goal

pub returns : goal.returns
returns c = four _ _ _ _ _ _ _ _ _ _ c.in_ok-push_bounds.ensures c.in_ok-push_last_bound.ensures c.in_ok-push_sum.ensures c.push_plain.ensures

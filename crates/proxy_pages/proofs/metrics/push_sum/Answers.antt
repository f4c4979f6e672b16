use Rattle.proxy_pages.proofs.TextLemmas.{three}
use Rattle.proxy_pages.proofs.metrics.push_sum.Goals as goal

pub returns : goal.returns
returns c = three _ _ _ _ _ _ _ _ c.in_ok-push_all.ensures c.in_ok-push_seconds.ensures c.push_all-2.ensures

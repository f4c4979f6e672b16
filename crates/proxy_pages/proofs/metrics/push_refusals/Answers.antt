use Rattle.proxy_pages.proofs.TextLemmas.{three}
use Rattle.proxy_pages.proofs.metrics.push_refusals.Goals as goal

pub returns : goal.returns
returns c = three _ _ _ _ _ _ _ _ c.in_ok-push_labelled.ensures c.in_ok-push_labelled-2.ensures c.push_labelled-3.ensures

use Rattle.proxy_pages.proofs.TextLemmas.{three}
use Rattle.proxy_pages.proofs.lines.push_host_bound.Goals as goal

pub returns : goal.returns
returns c = three _ _ _ _ _ _ _ _ c.in_ok-push_host_label.ensures c.in_ok-push_seconds.ensures c.push_end.ensures

use Rattle.proxy_pages.proofs.TextLemmas.{two}
use Rattle.proxy_pages.proofs.lines.push_last_host_bound.Goals as goal

pub returns : goal.returns
returns c = two _ _ _ _ _ _ c.in_ok-push_host_label.ensures c.push_end.ensures

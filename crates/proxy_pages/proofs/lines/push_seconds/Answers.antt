use Rattle.proxy_pages.proofs.TextLemmas.{three}
use Rattle.proxy_pages.proofs.lines.push_seconds.Goals as goal

pub returns : goal.returns
returns c =
    let whole = rw c.format.ensures.text at c.in_ok-push_all.ensures in
    three _ _ _ _ _ _ _ _ whole c.in_ok-push_three.ensures c.push_three-2.ensures

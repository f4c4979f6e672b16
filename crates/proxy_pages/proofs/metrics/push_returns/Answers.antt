use Rattle.std.proofs.Common.{ℕ, List, ◌++◌, None, get_or, ap, ◌∙◌}
use Rattle.proxy_pages.specs.Pages.{host_name, return_text}
use Rattle.proxy_pages.proofs.TextLemmas.{each_more, grown}
use Rattle.proxy_pages.proofs.metrics.push_returns.Goals as goal

pub loop-i-preserved : goal.loop-i-preserved
loop-i-preserved c =
    let name = c.args.name.now in
    let s = c.args.snapshot.now in
    let line : ℕ → List ℕ = λ i. return_text name (host_name c.args.about.now i) s.ejected.moment (get_or s.ejected.hosts i None) in
    let told = c.in_ok-push_return.ensures
    ∙ ap (λ z. c.loop-i.page.items ++ return_text name z s.ejected.moment (get_or s.ejected.hosts c.loop-i.i None)) c.host_name.ensures in
    grown _ _ _ (line c.loop-i.i) _ _ c.loop-i.invariant told (each_more c.loop-i.i line)

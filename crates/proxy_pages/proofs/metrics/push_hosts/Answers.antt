use Rattle.std.proofs.Common.{ℕ, List, ◌++◌, ap, ◌∙◌}
use Rattle.proxy_pages.specs.Lines.{host_text}
use Rattle.proxy_pages.specs.Numbers.{host_number}
use Rattle.proxy_pages.specs.Pages.{host_name}
use Rattle.proxy_pages.proofs.TextLemmas.{each_more, grown}
use Rattle.proxy_pages.proofs.metrics.push_hosts.Goals as goal

pub loop-i-preserved : goal.loop-i-preserved
loop-i-preserved c =
    let name = c.args.name.now in
    let line : ℕ → List ℕ = λ i. host_text name (host_name c.args.about.now i) (host_number c.args.snapshot.now c.args.number i) in
    let told = c.in_ok-push_of_host.ensures
    ∙ ap (λ z. c.loop-i.page.items ++ host_text name z c.of.result) c.host_name.ensures
    ∙ ap (λ z. c.loop-i.page.items ++ host_text name (host_name c.args.about.now c.loop-i.i) z) c.of.ensures in
    grown _ _ _ (line c.loop-i.i) _ _ c.loop-i.invariant told (each_more c.loop-i.i line)

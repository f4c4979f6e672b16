use Rattle.std.proofs.Common.{ℕ, List, ◌++◌, ap, ◌∙◌}
use Rattle.proxy_pages.specs.Numbers.{is_out_in}
use Rattle.proxy_pages.specs.Pages.{host_in_line}
use Rattle.proxy_pages.proofs.TextLemmas.{each_more, grown}
use Rattle.proxy_pages.proofs.hosts.push_in_lines.Goals as goal

pub loop-line-preserved : goal.loop-line-preserved
loop-line-preserved c =
    let text : ℕ → List ℕ = λ i. host_in_line c.args.name.now i (is_out_in c.args.snapshot.now i c.args.host) in
    let told = c.in_ok-push_in_line.ensures
    ∙ ap (λ z. c.loop-line.page.items ++ host_in_line c.args.name.now c.loop-line.line z) c.is_out_in.ensures in
    grown _ _ _ (text c.loop-line.line) _ _ c.loop-line.invariant told (each_more c.loop-line.line text)

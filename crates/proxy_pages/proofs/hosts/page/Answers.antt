use Rattle.std.proofs.Common.{◌++◌, sym, ap, ◌∙◌}
use Rattle.proxy_pages.specs.Pages.{host_lines}
use Rattle.proxy_pages.proofs.TextLemmas.{each_more}
use Rattle.proxy_pages.proofs.hosts.page.Goals as goal

pub loop-i-preserved : goal.loop-i-preserved
loop-i-preserved c =
    let line = host_lines c.args.about.now c.args.snapshot.now in
    c.in_ok-push_host.ensures ∙ ap (λ z. z ++ line c.loop-i.i) c.loop-i.invariant ∙ sym (each_more c.loop-i.i line)

use Rattle.std.proofs.Common.{ℕ, List, ◌++◌, ap, ◌∙◌}
use Rattle.proxy_serve_core.specs.FaultLog.{faults_at}
use Rattle.proxy_pages.specs.Pages.{host_name, host_faults_text}
use Rattle.proxy_pages.proofs.TextLemmas.{each_more, grown}
use Rattle.proxy_pages.proofs.metrics.push_faults.Goals as goal

pub loop-i-preserved : goal.loop-i-preserved
loop-i-preserved c =
    let name = c.args.name.now in
    let line : ℕ → List ℕ = λ i. host_faults_text name (host_name c.args.about.now i) (faults_at c.args.snapshot.now.faults i) in
    let told = c.in_ok-push_host_faults.ensures
    ∙ ap (λ z. c.loop-i.page.items ++ host_faults_text name z (faults_at c.args.snapshot.now.faults c.loop-i.i)) c.host_name.ensures in
    grown _ _ _ (line c.loop-i.i) _ _ c.loop-i.invariant told (each_more c.loop-i.i line)

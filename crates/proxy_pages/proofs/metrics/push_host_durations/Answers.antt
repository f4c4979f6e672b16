use Rattle.std.proofs.Common.{ℕ, List, [], ◌++◌, ap, ◌∙◌, rules}
use Rattle.std.proofs.lemmas.List.{get_or_default}
use Rattle.proxy_histogram.specs.HostDurations.{durations_at, no_durations}
use Rattle.proxy_pages.specs.Pages.{host_name, host_histogram_text}
use Rattle.proxy_pages.proofs.TextLemmas.{each_more, grown}
use Rattle.proxy_pages.proofs.metrics.push_host_durations.Goals as goal

pub loop-i-preserved : goal.loop-i-preserved
loop-i-preserved c =
    let name = c.args.name.now in
    let hosts = c.args.snapshot.now.host_durations in
    let line : ℕ → List ℕ = λ i. host_histogram_text name (host_name c.args.about.now i) (durations_at hosts i) in
    let there = get_or_default hosts c.loop-i.i (record { at_most = []; total = 0; sum_us = 0 }) no_durations (search rules) in
    let told = c.in_ok-push_histogram_of.ensures
    ∙ ap (λ z. c.loop-i.page.items ++ host_histogram_text name c.host_name.result.now z) there
    ∙ ap (λ z. c.loop-i.page.items ++ host_histogram_text name z (durations_at hosts c.loop-i.i)) c.host_name.ensures in
    grown _ _ _ (line c.loop-i.i) _ _ c.loop-i.invariant told (each_more c.loop-i.i line)

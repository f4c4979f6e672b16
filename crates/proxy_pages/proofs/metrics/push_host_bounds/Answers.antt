use Rattle.std.proofs.Common.{ℕ, List, slice_index}
use Rattle.proxy_histogram.specs.declared.histogram.TheConstants.{BOUNDS_US}
use Rattle.proxy_pages.specs.Lines.{host_bound_text}
use Rattle.proxy_pages.proofs.TextLemmas.{each_more, grown}
use Rattle.proxy_pages.proofs.metrics.push_host_bounds.Goals as goal

pub loop-i-preserved : goal.loop-i-preserved
loop-i-preserved c =
    let line : ℕ → List ℕ = λ i. host_bound_text c.args.name.now c.args.host.now (slice_index BOUNDS_US i) (slice_index c.args.durations.now.at_most i) in
    grown _ _ _ (line c.loop-i.i) _ _ c.loop-i.invariant c.in_ok-push_host_bound.ensures (each_more c.loop-i.i line)

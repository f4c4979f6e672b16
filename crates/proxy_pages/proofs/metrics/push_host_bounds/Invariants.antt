use Rattle.std.proofs.Common.{◌≡◌, ◌++◌, slice_index}
use Rattle.proxy_histogram.specs.declared.histogram.TheConstants.{BOUNDS_US}
use Rattle.proxy_pages.specs.Lines.{host_bound_text}
use Rattle.proxy_pages.specs.Pages.{each}
use Rattle.proxy_pages.proofs.metrics.push_host_bounds.Given as goal

-- the lines so far were appended
abbrev pub invariant-loop-i : goal.invariant-loop-i
invariant-loop-i l = l.page.items ≡ l.fn.page.items
    ++ each l.i (λ i. host_bound_text l.name l.host (slice_index BOUNDS_US i) (slice_index l.durations.at_most i))

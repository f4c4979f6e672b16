use Rattle.std.proofs.Common.{◌≡◌, ◌++◌}
use Rattle.proxy_histogram.specs.HostDurations.{durations_at}
use Rattle.proxy_pages.specs.Pages.{each, host_name, host_histogram_text}
use Rattle.proxy_pages.proofs.metrics.push_host_durations.Given as goal

-- the lines so far were appended
abbrev pub invariant-loop-i : goal.invariant-loop-i
invariant-loop-i l = l.page.items ≡ l.fn.page.items
    ++ each l.i (λ i. host_histogram_text l.name (host_name l.about i) (durations_at l.snapshot.host_durations i))

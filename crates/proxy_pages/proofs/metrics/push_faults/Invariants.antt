use Rattle.std.proofs.Common.{◌≡◌, ◌++◌}
use Rattle.proxy_serve_core.specs.FaultLog.{faults_at}
use Rattle.proxy_pages.specs.Pages.{each, host_name, host_faults_text}
use Rattle.proxy_pages.proofs.metrics.push_faults.Given as goal

-- the lines so far were appended
abbrev pub invariant-loop-i : goal.invariant-loop-i
invariant-loop-i l = l.page.items ≡ l.fn.page.items ++ each l.i (λ i. host_faults_text l.name (host_name l.about i) (faults_at l.snapshot.faults i))

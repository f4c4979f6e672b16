use Rattle.std.proofs.Common.{◌≡◌, ◌++◌, map, take}
use Rattle.std.specs.List.{concat}
use Rattle.proxy_serve_core.specs.FaultLog.{of_cause}
use Rattle.proxy_pages.specs.Lines.{fault_text}
use Rattle.proxy_pages.specs.Pages.{causes, fault_word}
use Rattle.proxy_pages.proofs.metrics.push_host_faults.Given as goal

-- the lines so far were appended
abbrev pub invariant-loop-cause : goal.invariant-loop-cause
invariant-loop-cause l = l.page.items ≡ l.fn.page.items
    ++ concat (map (λ cause. fault_text l.name l.host (fault_word cause) (of_cause cause l.faults).count) (take l.cause-index causes))

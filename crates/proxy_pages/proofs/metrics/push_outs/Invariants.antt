use Rattle.std.proofs.Common.{◌≡◌, ◌++◌}
use Rattle.proxy_pages.specs.Pages.{each, host_name, host_outs_text}
use Rattle.proxy_pages.proofs.metrics.push_outs.Given as goal

-- the lines so far were appended
abbrev pub invariant-loop-i : goal.invariant-loop-i
invariant-loop-i l = l.page.items ≡ l.fn.page.items ++ each l.i (λ i. host_outs_text l.name (host_name l.about i) l.snapshot i)

use Rattle.std.proofs.Common.{◌≡◌, ◌++◌}
use Rattle.proxy_pages.specs.Lines.{host_text}
use Rattle.proxy_pages.specs.Numbers.{host_number}
use Rattle.proxy_pages.specs.Pages.{each, host_name}
use Rattle.proxy_pages.proofs.metrics.push_hosts.Given as goal

-- the lines so far were appended
abbrev pub invariant-loop-i : goal.invariant-loop-i
invariant-loop-i l = l.page.items ≡ l.fn.page.items ++ each l.i (λ i. host_text l.name (host_name l.about i) (host_number l.snapshot l.number i))

use Rattle.std.proofs.Common.{◌≡◌, ◌++◌}
use Rattle.proxy_pages.specs.Numbers.{is_out_in}
use Rattle.proxy_pages.specs.Pages.{each, host_in_line}
use Rattle.proxy_pages.proofs.hosts.push_in_lines.Given as goal

-- the lines so far were appended
abbrev pub invariant-loop-line : goal.invariant-loop-line
invariant-loop-line l = l.page.items ≡ l.fn.page.items ++ each l.line (λ i. host_in_line l.name i (is_out_in l.snapshot i l.host))

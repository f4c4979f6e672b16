use Rattle.std.proofs.Common.{◌≡◌}
use Rattle.proxy_pages.specs.Pages.{each, host_lines}
use Rattle.proxy_pages.proofs.hosts.page.Given as goal

-- the page has the lines so far
abbrev pub invariant-loop-i : goal.invariant-loop-i
invariant-loop-i l = l.page.items ≡ each l.i (host_lines l.about l.snapshot)

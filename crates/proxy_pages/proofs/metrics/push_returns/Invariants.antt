use Rattle.std.proofs.Common.{◌≡◌, ◌++◌, None, get_or}
use Rattle.proxy_pages.specs.Pages.{each, host_name, return_text}
use Rattle.proxy_pages.proofs.metrics.push_returns.Given as goal

-- the lines so far were appended
abbrev pub invariant-loop-i : goal.invariant-loop-i
invariant-loop-i l = l.page.items ≡ l.fn.page.items
    ++ each l.i (λ i. return_text l.name (host_name l.about i) l.snapshot.ejected.moment (get_or l.snapshot.ejected.hosts i None))

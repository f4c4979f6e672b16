use Rattle.std.proofs.Common.{◌≡◌, ◌++◌}
use Rattle.proxy_pages.specs.Lines.{line_text}
use Rattle.proxy_pages.specs.Numbers.{bit, is_out_in}
use Rattle.proxy_pages.specs.Pages.{each}
use Rattle.proxy_pages.proofs.metrics.push_lines_out.Given as goal

-- the lines so far were appended
abbrev pub invariant-loop-line : goal.invariant-loop-line
invariant-loop-line l = l.page.items ≡ l.fn.page.items ++ each l.line (λ i. line_text l.name l.host i (bit (is_out_in l.snapshot i l.index)))

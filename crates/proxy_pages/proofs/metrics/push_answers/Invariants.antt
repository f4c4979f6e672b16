use Rattle.std.proofs.Common.{◌≡◌, ◌++◌, codes, slice_index}
use Rattle.proxy_pages.specs.Lines.{labelled_text}
use Rattle.proxy_pages.specs.Pages.{each, answer_word}
use Rattle.proxy_pages.proofs.metrics.push_answers.Given as goal

-- the lines so far were appended
abbrev pub invariant-loop-i : goal.invariant-loop-i
invariant-loop-i l = l.page.items ≡ l.fn.page.items ++ each l.i (λ i. labelled_text l.name (codes "kind") (answer_word i) (slice_index l.counts.local i))

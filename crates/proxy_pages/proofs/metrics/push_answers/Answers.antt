use Rattle.std.proofs.Common.{ℕ, List, ◌++◌, slice_index, ap, ◌∙◌}
use Rattle.std.specs.Prelude.{codes}
use Rattle.proxy_pages.specs.Lines.{labelled_text}
use Rattle.proxy_pages.specs.Pages.{answer_word}
use Rattle.proxy_pages.proofs.TextLemmas.{each_more, grown}
use Rattle.proxy_pages.proofs.metrics.push_answers.Goals as goal

pub loop-i-preserved : goal.loop-i-preserved
loop-i-preserved c =
    let line : ℕ → List ℕ = λ i. labelled_text c.args.name.now (codes "kind") (answer_word i) (slice_index c.args.counts.now.local i) in
    let told = c.in_ok-push_labelled.ensures ∙ ap (λ z. c.loop-i.page.items ++ labelled_text c.args.name.now (codes "kind") z (slice_index c.args.counts.now.local c.loop-i.i)) c.answer_word.ensures in
    grown _ _ _ (line c.loop-i.i) _ _ c.loop-i.invariant told (each_more c.loop-i.i line)

use Rattle.std.proofs.Common.{ℕ, List, ◌++◌, ap, ◌∙◌}
use Rattle.proxy_pages.specs.Lines.{line_text}
use Rattle.proxy_pages.specs.Numbers.{bit, is_out_in}
use Rattle.proxy_pages.proofs.TextLemmas.{each_more, grown}
use Rattle.proxy_pages.proofs.metrics.push_lines_out.Goals as goal

pub loop-line-preserved : goal.loop-line-preserved
loop-line-preserved c =
    let text : ℕ → List ℕ = λ i. line_text c.args.name.now c.args.host.now i (bit (is_out_in c.args.snapshot.now i c.args.index)) in
    let told = c.in_ok-push_of_line.ensures
    ∙ ap (λ z. c.loop-line.page.items ++ line_text c.args.name.now c.args.host.now c.loop-line.line z) (c.bit-number.ensures ∙ ap bit c.is_out_in.ensures) in
    grown _ _ _ (text c.loop-line.line) _ _ c.loop-line.invariant told (each_more c.loop-line.line text)

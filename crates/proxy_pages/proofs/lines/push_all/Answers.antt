use Rattle.std.proofs.Common.{◌++◌, [], ap, ◌∙◌}
use Rattle.proxy_pages.proofs.TextLemmas.{concat_more, grown}
use Rattle.proxy_pages.proofs.lines.push_all.Goals as goal

pub loop-part-preserved : goal.loop-part-preserved
loop-part-preserved c =
    let more = concat_more (λ part. part.now) c.args.parts.now c.loop-part.part-index (record { ref_ptr = (0, 0); now = [] }) c.loop-part-test.true in
    grown _ _ _ _ _ _ c.loop-part.invariant (c.in_ok-extend_from_slice.ensures.items ∙ ap (λ z. c.loop-part.page.items ++ z) c.as_bytes.ensures.value) more

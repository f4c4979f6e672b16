use Rattle.std.proofs.Common.{◌++◌, [], ap, ◌∙◌}
use Rattle.proxy_record.proofs.TextLemmas.{concat_more, grown}
use Rattle.proxy_record.proofs.pieces.push_all.Goals as goal

pub loop-piece-preserved : goal.loop-piece-preserved
loop-piece-preserved c =
    let more = concat_more (λ piece. piece.now) c.args.pieces.now c.loop-piece.piece-index (record { ref_ptr = (0, 0); now = [] }) c.loop-piece-test.true in
    grown _ _ _ _ _ _ c.loop-piece.invariant (c.in_ok-extend_from_slice.ensures.items ∙ ap (λ z. c.loop-piece.line.items ++ z) c.as_bytes.ensures.value) more

use Rattle.std.proofs.Common.{◌++◌, sym, ap, ◌∙◌, arith}
use Rattle.std.proofs.lemmas.List.{append-nil}
use Rattle.proxy_record.proofs.HexLemmas.{hex_more, hex_none, two_bytes}
use Rattle.proxy_record.proofs.pieces.push_hex.Goals as goal

pub loop-byte-preserved : goal.loop-byte-preserved
loop-byte-preserved c =
    let more = hex_more c.args.bytes.now c.loop-byte.byte-index (omega arith) in
    rw (c.in_ok-push-2.ensures.items, c.in_ok-push.ensures.items)
    (two_bytes _ _ _ _ _ (ap (λ z. c.loop-byte.line.items ++ z) (sym more) ∙ c.loop-byte.invariant))

pub returns : goal.returns
returns c =
    let none = hex_none c.args.bytes.now c.loop-byte.byte-index (omega arith) in
    sym (append-nil c.loop-byte.line.items) ∙ ap (λ z. c.loop-byte.line.items ++ z) (sym none) ∙ c.loop-byte.invariant

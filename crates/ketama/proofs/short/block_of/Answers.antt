use Rattle.std.proofs.Common.{◌∙◌, ◌≡◌, ◌*◌, ◌%◌, ◌^◌, length, ap, arith}
use Rattle.std.specs.Int.{w64, to_le_bytes}
use Rattle.ketama.proofs.ShortLemmas.{block_padded}
use Rattle.ketama.proofs.short.block_of.Goals as goal

pub returns : goal.returns
returns c =
    let bits : 8 * length c.args.text.now ≡ length c.args.text.now * 8 % 2 ^ 64 = omega arith in
    block_padded c.args.text.now _ _ c.requires c.copy_from_slice.ensures.after
    (c.copy_from_slice-2.ensures.after ∙ c.to_le_bytes.ensures ∙ ap (to_le_bytes w64) bits)

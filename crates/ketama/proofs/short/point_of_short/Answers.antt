use Rattle.std.proofs.Common.{◌∙◌, ap, List, ℕ, slice_index}
use Rattle.md5.specs.Md5.{add32, initial_hash, rounds, block_words}
use Rattle.ketama.proofs.ShortLemmas.{first_word}
use Rattle.ketama.proofs.short.point_of_short.Goals as goal

pub returns : goal.returns
returns c =
    ap (λ (v : List ℕ). add32 0x67452301 (slice_index v 0)) c.all_steps-v.ensures
    ∙ first_word c.args.text.now _ c.requires (c.words_of.ensures ∙ ap (λ (block : List ℕ). block_words block 16) c.block_of-block.ensures)

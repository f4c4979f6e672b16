use Rattle.std.proofs.Common.{◌≡◌, ℕ, ◌<◌, length, slice_index, ◌*◌}
use Rattle.md5.specs.Md5.{word_at}
use Rattle.ketama.proofs.short.words_of.Given as goal

abbrev pub invariant-load : goal.invariant-load
invariant-load l = (length l.w ≡ 16) × ((k : ℕ) → k < l.i → slice_index l.w k ≡ word_at l.block (4 * k))

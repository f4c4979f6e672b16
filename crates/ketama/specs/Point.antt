-- The points of an MD5 digest.
use Rattle.std.specs.Prelude.{ℕ, ◌+◌, ◌*◌, List, [], ◌∷◌, slice_index}
use Rattle.std.specs.Int.{w32, from_le_bytes}

-- point j of an MD5 digest: its bytes 4 * j to 4 * j + 3 as a number, the least significant first
abbrev pub point_in : List ℕ → ℕ → ℕ
point_in digest j = from_le_bytes w32
    (slice_index digest (4 * j) ∷ slice_index digest (4 * j + 1) ∷ slice_index digest (4 * j + 2)
    ∷ slice_index digest (4 * j + 3) ∷ [])

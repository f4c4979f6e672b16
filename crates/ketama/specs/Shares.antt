-- What holds of how digests are shared out.
use Rattle.std.specs.Prelude.{◌≡◌, ℕ, ◌<◌, ◌≤◌, ◌*◌, List, length, replicate, slice_index, sum, All}
use Rattle.ketama.specs.Ketama.{digest_counts}

-- hosts of one weight have 40 digests each
abbrev pub EqualWeightsGiveForty : Type 0
EqualWeightsGiveForty = (n w : ℕ) → 1 ≤ w → digest_counts (replicate n w) ≡ replicate n 40

-- all hosts together have at most 40 digests a host
abbrev pub DigestsAreFew : Type 0
DigestsAreFew = (weights : List ℕ) → sum (digest_counts weights) ≤ 40 * length weights

-- a host than which none weighs more has at least 40
abbrev pub HeaviestHasForty : Type 0
HeaviestHasForty = (weights : List ℕ) (host : ℕ) → host < length weights
    → 1 ≤ slice_index weights host → All (λ w. w ≤ slice_index weights host) weights
    → 40 ≤ slice_index (digest_counts weights) host

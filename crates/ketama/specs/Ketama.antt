-- The points of libketama.
use Rattle.std.specs.Prelude.{◌≡◌, ◌↔◌, ℕ, zero, suc, ◌*◌, ◌/◌, ◌<◌, ◌≤◌, decimal, Some, List, [], ◌∷◌, ◌++◌, length, map, sum, slice_index, slice_index_or, slice_get, All, Contains}
use Rattle.md5.specs.Md5.{md5}
use Rattle.ketama.specs.Point.{point_in}
use Rattle.ketama.specs.Continuum.{Continuum}

-- how many digests each host has: 40 for each host of the ring, shared out by the hosts' weights, each
-- share rounded down
abbrev pub digest_counts : List ℕ → List ℕ
digest_counts weights = map (λ w. 40 * length weights * w / sum weights) weights

-- the text of which digest k of a host is the MD5: the host's name, a dash, and k in decimal
abbrev pub label_of : List ℕ → ℕ → List ℕ
label_of name k = name ++ 0x2D ∷ decimal k

-- the point is one of a host's: point j of its digest k, of so many digests with 4 points each
pub record IsPointOf (name : List ℕ) (digests point : ℕ) : Type 0 where
  pub k : ℕ
  pub j : ℕ
  pub digest : k < digests
  pub place : j < 4
  pub value : point ≡ point_in (md5 (label_of name k)) j

-- the pair is one of the points of these hosts, which have so many digests each, with the number of its
-- host
pub record IsKetamaPair (names : List (List ℕ)) (counts : List ℕ) (pair : ℕ × ℕ) : Type 0 where
  pub name : List ℕ
  pub host : slice_get names pair.1 ≡ Some name
  pub point : IsPointOf name (slice_index counts pair.1) pair.0

-- the ring of these hosts by their weights
pub record IsKetamaRing (names : List (List ℕ)) (weights : List ℕ) (ring : Continuum) : Type 0 where
  pub hosts : ring.hosts ≡ length names
  pub digests : ring.digests ≡ sum (digest_counts weights)
  pub pairs : (pair : ℕ × ℕ) → Contains ring.pairs pair ↔ IsKetamaPair names (digest_counts weights) pair

-- weights for n hosts: one for each, from 1 to 100
pub record AreWeights (n : ℕ) (weights : List ℕ) : Type 0 where
  pub each : length weights ≡ n
  pub in_range : All (λ w. (1 ≤ w) × (w ≤ 100)) weights

-- two of the names are the same
pub record HasSameName (names : List (List ℕ)) : Type 0 where
  pub i : ℕ
  pub j : ℕ
  pub before : i < j
  pub within : j < length names
  pub same : slice_get names i ≡ slice_get names j

-- ---- the same points as lists

-- the pairs of one digest
abbrev pub digest_pairs : List ℕ → ℕ → List (ℕ × ℕ)
digest_pairs digest host =
    (point_in digest 0, host) ∷ (point_in digest 1, host) ∷ (point_in digest 2, host) ∷ (point_in digest 3, host) ∷ []

-- the pairs of a host's first n digests
unfoldable pub host_pairs : List ℕ → ℕ → ℕ → List (ℕ × ℕ)
host_pairs name host zero = []
host_pairs name host (suc n) = host_pairs name host n ++ digest_pairs (md5 (label_of name n)) host

-- the pairs of the first n hosts, which have so many digests each
unfoldable pub ring_pairs : List (List ℕ) → List ℕ → ℕ → List (ℕ × ℕ)
ring_pairs names counts zero = []
ring_pairs names counts (suc n) =
    ring_pairs names counts n ++ host_pairs (slice_index_or names n []) n (slice_index counts n)

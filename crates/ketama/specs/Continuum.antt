-- What contracts see of a ring.
use Rattle.std.specs.Prelude.{◌≡◌, ℕ, ◌<◌, ◌≤◌, List, All, AllPairs}
use Rattle.limits.specs.declared.hosts.TheConstants.{MAX_HOSTS}

-- what a ring is to its callers (libketama calls it a continuum): how many hosts it has, from how many
-- digests it was made, and its pairs of a point and a host, of which only the membership counts
pub record Continuum : Type 0 where
  pub hosts : ℕ
  pub digests : ℕ
  pub pairs : List (ℕ × ℕ)

-- pair a comes before pair b: its point is less, or the points are equal and its host is less
abbrev pub IsBefore : ℕ × ℕ → ℕ × ℕ → Type 0
IsBefore a b = (a.0 ≤ b.0) × (a.0 ≡ b.0 → a.1 < b.1)

-- at most 64 hosts, and each pair is of one of them; the pairs ascend by point and then by host, so that
-- none stands twice
pub record IsContinuum (ring : Continuum) : Type 0 where
  pub few : ring.hosts ≤ MAX_HOSTS
  pub in_range : All (λ pair. pair.1 < ring.hosts) ring.pairs
  pub in_order : AllPairs IsBefore ring.pairs

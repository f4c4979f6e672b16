-- Rings of points that the caller gives.
use Rattle.std.specs.Prelude.{◌≡◌, ◌↔◌, ℕ, ◌≤◌, List, Contains, Any}
use Rattle.ketama.specs.Continuum.{Continuum}

-- a point is given to a host that there is not
abbrev pub HasBadPoint : ℕ → List (ℕ × ℕ) → Type 0
HasBadPoint hosts points = Any (λ pair. hosts ≤ pair.1) points

-- the ring of these points
pub record IsRingOfPoints (n : ℕ) (points : List (ℕ × ℕ)) (ring : Continuum) : Type 0 where
  pub hosts : ring.hosts ≡ n
  pub digests : ring.digests ≡ 0
  pub pairs : (pair : ℕ × ℕ) → Contains ring.pairs pair ↔ Contains points pair

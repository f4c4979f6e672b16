-- Which host owns a key while none is ejected.
use Rattle.std.specs.Prelude.{◌≡◌, ◌↔◌, ◌<◌, ℕ, Bool, true, List, length, map, replicate, slice_get, Some, Contains}
use Rattle.ketama.specs.Continuum.{Continuum}
use Rattle.ketama.specs.Key.{point_of}
use Rattle.ketama.specs.Ketama.{IsKetamaPair, digest_counts}
use Rattle.ketama.specs.Owner.{Owns}
use Rattle.proxy_config.specs.File.{IsSettings}
use Rattle.proxy_config.specs.Values.{Values}

-- what decides which host owns a key: the ring's pairs of a point and a host, the hosts' names, and whether
-- tags count
pub record Owners : Type 0 where
  pub pairs : List (ℕ × ℕ)
  pub names : List (List ℕ)
  pub tags : Bool

-- the owners by the settings in these bytes: the hosts' names, and the points of libketama's ring by names and weights
pub record AreOwnersOf (bytes : List ℕ) (owners : Owners) : Type 0 where
  pub values : Values
  pub settings : IsSettings bytes values
  pub names : owners.names ≡ map (λ h. h.name) values.hosts
  pub pairs : (pair : ℕ × ℕ) → Contains owners.pairs pair ↔ IsKetamaPair owners.names (digest_counts values.weights) pair
  pub tags : owners.tags ≡ values.tags

-- the name is that of the host that owns the key's point among all hosts
pub record IsOwnerName (owners : Owners) (key name : List ℕ) : Type 0 where
  pub host : ℕ
  pub owns : Owns owners.pairs (point_of key owners.tags) (replicate (length owners.names) true) host
  pub named : slice_get owners.names host ≡ Some name

-- the ring is of hosts with these names, all are usable, and one has a point
pub record HasOwners (ring : Continuum) (names : List (List ℕ)) (usable : List Bool) : Type 0 where
  pub hosts : ring.hosts ≡ length names
  pub all : usable ≡ replicate (length names) true
  pub pair : ℕ × ℕ
  pub some : Contains ring.pairs pair
  pub within : pair.1 < length names

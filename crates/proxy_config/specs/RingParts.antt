-- What a ring is made from.
use Rattle.std.specs.Prelude.{◌≢◌, ◌≤◌, List, ℕ, length, AllPairs}
use Rattle.ketama.specs.Ketama.{AreWeights}
use Rattle.proxy_config.specs.declared.config.Host.{Host}

-- hosts of different names, not too many for a ring, and a weight for each
pub record AreRingParts (hosts : List Host) (weights : List ℕ) : Type 0 where
  pub few : length hosts ≤ 64
  pub distinct : AllPairs (λ a b. a.name ≢ b.name) hosts
  pub weighed : AreWeights (length hosts) weights

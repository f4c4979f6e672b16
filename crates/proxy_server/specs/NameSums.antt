-- Names of refused commands of several generations, added up.
use Rattle.std.specs.Prelude.{◌≡◌, ℕ, ◌^◌, ◌<◌, ◌≤◌, List, sum_by}
use Rattle.proxy_stats.specs.declared.refused_names.RefusedNames.{RefusedNames}
use Rattle.proxy_stats.specs.RefusedNames.{counted, HasRoom, HaveOneNameEach, total}

-- The numbers of all these together. As many came as in all, as far as a number can tell it. No name is counted more often than in all, and none less if a
-- place is free. No name has two places.
pub record AreNameSums (all : List RefusedNames) (r : RefusedNames) : Type 0 where
  pub sum : sum_by total all < 2 ^ 64 → total r ≡ sum_by total all
  pub each : (key : List ℕ) → counted key r.places ≤ sum_by (λ a. counted key a.places) all
  pub full : sum_by total all < 2 ^ 64 → HasRoom r.places → (key : List ℕ) → counted key r.places ≡ sum_by (λ a. counted key a.places) all
  pub once : HaveOneNameEach r.places

-- How many rates there are.
use Rattle.std.proofs.Common.{◌≡◌, ℕ, List, [], ◌∷◌, Option, Some, None, length, is_some, count_by, cond, refl, arith}
use Rattle.std.proofs.lemmas.List.Sums.{sum_by-cons}
use Rattle.rate_core.specs.Outlier.{known_rates}

pub length-known : (rates : List (Option ℕ)) → length (known_rates rates) ≡ count_by is_some rates
length-known [] = refl
length-known (Some r ∷ rates) = rw (sum_by-cons (λ (o : Option ℕ). cond (is_some o) 1 0) (Some r) rates) (omega (arith, length-known rates))
length-known (None ∷ rates) = rw (sum_by-cons (λ (o : Option ℕ). cond (is_some o) 1 0) None rates) (omega (arith, length-known rates))

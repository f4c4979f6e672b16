-- The rates that are there, one place further.
use Rattle.std.proofs.Common.{◌≡◌, ℕ, ◌+◌, ◌*◌, ◌<◌, ◌≤◌, List, [], ◌∷◌, ◌++◌, Option, Some, None, length, take, get_or, ap, ◌∙◌, arith, append-nil}
use Rattle.std.proofs.lemmas.List.{take_more}
use Rattle.std.proofs.lemmas.Nat.{mul-le}
use Rattle.std.proofs.lemmas.List.Elements.{filter_map-append}
use Rattle.rate_core.specs.Outlier.{known_rates}

pub known_more_some : (xs : List (Option ℕ)) (i r : ℕ) → i < length xs → get_or xs i None ≡ Some r → known_rates (take (i + 1) xs) ≡ known_rates (take i xs) ++ r ∷ []
known_more_some xs i r l e =
    ap known_rates (take_more xs i None l) ∙ filter_map-append (λ (o : Option ℕ). o) (take i xs) (get_or xs i None ∷ []) ∙ ap (λ (o : Option ℕ). known_rates (take i xs) ++ known_rates (o ∷ [])) e

pub known_more_none : (xs : List (Option ℕ)) (i : ℕ) → i < length xs → get_or xs i None ≡ None → known_rates (take (i + 1) xs) ≡ known_rates (take i xs)
known_more_none xs i l e =
    ap known_rates (take_more xs i None l) ∙ filter_map-append (λ (o : Option ℕ). o) (take i xs) (get_or xs i None ∷ []) ∙ ap (λ (o : Option ℕ). known_rates (take i xs) ++ known_rates (o ∷ [])) e
    ∙ append-nil (known_rates (take i xs))

pub square_within : (r : ℕ) → r ≤ 1000000 → r * r ≤ 1000000000000
square_within r l = omega (arith, mul-le r r 1000000 1000000 l l)

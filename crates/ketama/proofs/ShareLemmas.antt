-- How digests are shared out by weight.
use Rattle.std.proofs.Common.{◌≡◌, ℕ, zero, suc, ◌*◌, ◌/◌, ◌<◌, ◌≤◌, ◌^◌, List, [], ◌∷◌, length, map, replicate, get_or, refl, ◌∙◌, ap, All, sum, sum_by, arith}
use Rattle.std.proofs.Math.Nat.{div-zero, div-mul-le_self, mul-div_cancel, mul_assoc, mul-le-mul_left, le_of_mul-le-mul_right}
use Rattle.std.proofs.lemmas.Nat.{le-div, mul-le}
use Rattle.std.proofs.lemmas.List.{length-replicate, get_or-map}
use Rattle.std.proofs.lemmas.List.Sums.{sum_by-le, sum_by-cons, sum-map, get_or-le-sum_by}
use Rattle.std.proofs.lemmas.List.Folds.{sum_by-replicate}
use Rattle.ketama.specs.Ketama.{digest_counts}
use Rattle.ketama.specs.Shares.{EqualWeightsGiveForty, DigestsAreFew, HeaviestHasForty}

pub weights_fit : (weights : List ℕ) → length weights ≤ 64 → All (λ w. (1 ≤ w) × (w ≤ 100)) weights → sum weights < 2 ^ 32
weights_fit weights few in_range =
    let most = sum_by-le (λ w. w) 100 weights (λ k d within. (in_range k d within).1) in
    omega (arith, most, few)

-- ---- all together

-- shares that are rounded down are together at most what is shared out
shares_below : (all total : ℕ) (weights : List ℕ) → sum_by (λ w. all * w / total) weights * total ≤ all * sum_by (λ w. w) weights
shares_below all total [] = omega arith
shares_below all total (w ∷ weights) =
    let rest = shares_below all total weights in
    let one = div-mul-le_self (all * w) total in
    let shares = sum_by-cons (λ w. all * w / total) w weights in
    let weight = sum_by-cons (λ w. w) w weights in
    rw (shares, weight) (grind (arith, rest, one))

no_shares : (all : ℕ) (weights : List ℕ) → sum_by (λ w. all * w / 0) weights ≤ 0
no_shares all weights =
    let none = sum_by-le (λ w. all * w / 0) 0 weights (λ k d within. rw (div-zero (all * get_or weights k d)) (omega arith)) in
    omega (arith, none)

few_shares : (all total : ℕ) (weights : List ℕ) → sum weights ≡ total → sum_by (λ w. all * w / total) weights ≤ all
few_shares all zero weights is = let none = no_shares all weights in omega (arith, none)
few_shares all (suc t) weights is =
    let below = rw is at (shares_below all (suc t) weights) in
    le_of_mul-le-mul_right below (omega arith)

pub digests_are_few : DigestsAreFew
digests_are_few weights =
    rw (sum-map (λ w. 40 * length weights * w / sum weights) weights) (few_shares (40 * length weights) (sum weights) weights refl)

-- ---- equal weights

map-replicate : (f : ℕ → ℕ) (n w : ℕ) → map f (replicate n w) ≡ replicate n (f w)
map-replicate f zero w = refl
map-replicate f (suc n) w = ap (λ xs. f w ∷ xs) (map-replicate f n w)

forty_each : (n w total : ℕ) → 1 ≤ w → total ≡ suc n * w → 40 * suc n * w / total ≡ 40
forty_each n w total weighs is =
    let some : 0 < suc n * w = omega (arith, weighs) in
    rw (is, mul_assoc 40 (suc n) w) (mul-div_cancel 40 some)

pub equal_weights_give_forty : EqualWeightsGiveForty
equal_weights_give_forty zero w weighs = refl
equal_weights_give_forty (suc n) w weighs =
    let weights = replicate (suc n) w in
    ap (λ count. map (λ v. 40 * count * v / sum weights) weights) (length-replicate (suc n) w)
    ∙ map-replicate (λ v. 40 * suc n * v / sum weights) (suc n) w
    ∙ ap (replicate (suc n)) (forty_each n w (sum weights) weighs (sum_by-replicate (λ v. v) (suc n) w))

-- ---- the heaviest

pub heaviest_has_forty : HeaviestHasForty
heaviest_has_forty weights host within weighs most =
    let w = get_or weights host 0 in
    let total = sum weights in
    let at_least = get_or-le-sum_by (λ v. v) weights host 0 within in
    let at_most = sum_by-le (λ v. v) w weights most in
    let enough : 40 * total ≤ 40 * length weights * w = rw (mul_assoc 40 (length weights) w) (mul-le-mul_left 40 at_most) in
    rw (get_or-map (λ v. 40 * length weights * v / total) weights host 0 0 within)
    (le-div 40 (40 * length weights * w) total (omega (arith, at_least, weighs)) enough)

-- ---- the loop that counts

pub some_total : (weights : List ℕ) (i : ℕ) → i < length weights → 1 ≤ get_or weights i 0 → 0 < sum weights
some_total weights i within weighs = let least = get_or-le-sum_by (λ w. w) weights i 0 within in omega (arith, least, weighs)

pub share_fits : (all w : ℕ) → all ≤ 2560 → w ≤ 100 → all * w < 2 ^ 32
share_fits all w few light = let most = mul-le all w 2560 100 few light in omega (arith, most)

pub counts_fit : (weights : List ℕ) → length weights ≤ 64 → sum (digest_counts weights) < 2 ^ 32
counts_fit weights few = let most = digests_are_few weights in omega (arith, most, few)

-- Numbers of values, with one value more so many times.
use Rattle.std.proofs.Common.{◌≡◌, ℕ, ◌+◌, ◌*◌, nat_le, cond, Bool, true, false, List, ◌++◌, replicate, sum, ap, ◌∙◌, arith}
use Rattle.std.proofs.lemmas.List.Sums.{sum_by-append}
use Rattle.std.proofs.lemmas.List.Folds.{sum_by-replicate}
use Rattle.proxy_histogram.specs.Values.{capped, number_at_most}

times_of : (b : Bool) (n : ℕ) → n * cond b 1 0 ≡ cond b n 0
times_of true n = omega arith
times_of false n = omega arith

pub number_with_times : (bound v times : ℕ) (xs : List ℕ)
    → number_at_most bound (xs ++ replicate times v) ≡ number_at_most bound xs + cond (nat_le v bound) times 0
number_with_times bound v times xs =
    sum_by-append (λ x. cond (nat_le x bound) 1 0) xs (replicate times v)
    ∙ ap (λ n. number_at_most bound xs + n)
    (sum_by-replicate (λ x. cond (nat_le x bound) 1 0) times v ∙ times_of (nat_le v bound) times)

sum_of_both : (xs ys : List ℕ) → sum (xs ++ ys) ≡ sum xs + sum ys
sum_of_both xs ys = sum_by-append (λ x. x) xs ys

pub sum_with_times : (v times : ℕ) (xs : List ℕ) → sum (xs ++ replicate times v) ≡ sum xs + times * v
sum_with_times v times xs =
    sum_of_both xs (replicate times v) ∙ ap (λ n. sum xs + n) (sum_by-replicate (λ x. x) times v)

-- a number that is the greatest stays it
pub capped_more : (a m more : ℕ) → a ≡ capped m → capped (a + more) ≡ capped (m + more)
capped_more a m more p = grind (arith, p)

pub capped_sum : (a m more : ℕ) → a ≡ capped m → capped (a + capped more) ≡ capped (m + more)
capped_sum a m more p = grind (arith, p)

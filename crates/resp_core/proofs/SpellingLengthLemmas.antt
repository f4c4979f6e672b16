-- How long the one spelling of a value is.
use Rattle.std.proofs.Common.{◌≡◌, ◌<◌, ◌≤◌, ◌^◌, ◌*◌, ◌+◌, ◌/◌, ◌%◌, ◌++◌, ℕ, suc, List, [], ◌∷◌, length, decimal, ap, ◌∙◌, arith}
use Rattle.std.proofs.lemmas.Fmt.{decimal_digit, decimal_step, length-decimal-le, digits_decimal, digits_value-decimal}
use Rattle.std.proofs.lemmas.List.{length-append}
use Rattle.std.proofs.lemmas.Str.Parse.{digits_value_short}
use Rattle.std.proofs.Math.Nat.{pow-suc}
use Rattle.resp_core.specs.Stream.{told_offset}
use Rattle.resp_core.specs.Text.{line, line_end}
use Rattle.resp_core.proofs.RoundTripLemmas.{own}

-- a number from a power of ten on has a digit more than the power's exponent
pub length-decimal_power : (k n : ℕ) → 10 ^ k ≤ n → n < 10 * 10 ^ k → n < 2 ^ 64 → length (decimal n) ≡ k + 1
length-decimal_power k n low high small =
    let some : length (decimal n) ≤ k → ⊥ =
    λ short. omega (arith, low, digits_value_short own (decimal n) k (digits_decimal own n small) short, digits_value-decimal own n small) in
    omega (arith, length-decimal-le (suc k) n (omega arith) (omega (arith, high, pow-suc 10 k)) small, some)

-- a number of two digits
pub decimal_two : (n : ℕ) → 10 ≤ n → n < 100 → decimal n ≡ (48 + n / 10) ∷ (48 + n % 10) ∷ []
decimal_two n low high =
    decimal_step n low (omega arith) ∙ ap (λ ds. ds ++ (48 + n % 10) ∷ []) (decimal_digit (n / 10) (omega arith))

-- a number of three digits
pub decimal_three : (n : ℕ) → 100 ≤ n → n < 1000 → decimal n ≡ (48 + n / 10 / 10) ∷ (48 + n / 10 % 10) ∷ (48 + n % 10) ∷ []
decimal_three n low high =
    decimal_step n (omega arith) (omega arith) ∙ ap (λ ds. ds ++ (48 + n % 10) ∷ []) (decimal_two (n / 10) (omega arith) (omega arith))

pub length_line : (kind : ℕ) (bytes : List ℕ) → length (line kind bytes) ≡ length bytes + 3
length_line kind bytes = omega (arith, length-append (kind ∷ bytes) line_end)

-- a sum of two, each told, is told as their sum
pub told-add : (a b : ℕ) → told_offset (told_offset a + told_offset b) ≡ told_offset (a + b)
told-add a b = omega arith

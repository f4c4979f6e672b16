-- The digits of numbers.
use Rattle.std.proofs.Common.{◌≡◌, ◌<◌, ◌≤◌, ◌^◌, ◌-◌, ℕ, suc, ℤ, pos, negsuc, neg_ℤ, true, false, List, [], ◌∷◌, Option, Some, length, take, drop, decimal, ap, ◌∙◌, subst, arith}
use Rattle.std.specs.Prelude.{◌==◌, slice_index}
use Rattle.std.specs.Fmt.{signed_decimal}
use Rattle.std.proofs.lemmas.Bool.{eqb-true}
use Rattle.std.proofs.lemmas.List.{take_all, length-drop}
use Rattle.resp_core.specs.ValueLimits.{IsLong}
use Rattle.std.specs.Str.Parse.{AllDigits}
use Rattle.std.proofs.lemmas.Fmt.{decimal_is_IsNumeral}
use Rattle.std.proofs.lemmas.Str.Parse.{digit_from_value}

-- no number begins with a minus
pub no_minus : (n : ℕ) (digits : List ℕ) → n < 2 ^ 64 → decimal n ≡ 45 ∷ digits → ⊥
no_minus n digits h e = omega (arith, digit_from_value 45 (subst (AllDigits 10) e (decimal_is_IsNumeral n h).0.1).0)

-- nor has it one in front
no_minus_first : (ds : List ℕ) → AllDigits 10 ds → (slice_index ds 0 == 45) ≡ true → ⊥
no_minus_first [] all e = cc
no_minus_first (d ∷ ds) all e = omega (arith, digit_from_value d all.0, eqb-true d 45 e)

-- a number that begins with a minus
pub negative_arm : (shown : List ℕ) (found : Option ℤ) (n : ℤ) → IsLong n → (slice_index shown 0 == 45) ≡ true → shown ≡ signed_decimal n
    → ((m : ℕ) → m ≤ 2 ^ 63 → shown ≡ 45 ∷ decimal m → found ≡ Some (neg_ℤ (pos m))) → found ≡ Some n
negative_arm shown found (pos m) long first is finds =
    absurd (no_minus_first (decimal m) (decimal_is_IsNumeral m (omega arith)).0.1 (subst (λ (z : List ℕ). (slice_index z 0 == 45) ≡ true) is first))
negative_arm shown found (negsuc m) long first is finds = finds (suc m) (omega arith) is

-- and one that doesn't
pub positive_arm : (shown : List ℕ) (found : Option ℤ) (n : ℤ) → IsLong n → (slice_index shown 0 == 45) ≡ false → shown ≡ signed_decimal n
    → ((m : ℕ) → m < 2 ^ 63 → shown ≡ decimal m → found ≡ Some (pos m)) → found ≡ Some n
positive_arm shown found (pos m) long first is finds = finds m long is
positive_arm shown found (negsuc m) long first is finds =
    let e : true ≡ false = subst (λ (z : List ℕ). (slice_index z 0 == 45) ≡ false) is first in cc

-- the digits behind a minus
pub behind_minus : (shown ds : List ℕ) → shown ≡ 45 ∷ ds → take (length shown - 1) (drop 1 shown) ≡ ds
behind_minus shown ds is = take_all (length shown - 1) (drop 1 shown) (omega (arith, length-drop 1 shown)) ∙ ap (drop 1) is

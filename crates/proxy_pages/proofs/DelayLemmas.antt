-- What a query says of the delay.
use Rattle.std.proofs.Common.{◌≡◌, ◌<◌, ◌≤◌, ◌^◌, ◌&&◌, ℕ, Bool, true, false, List, [], ◌∷◌, length, refl, nat_lt, arith, cond, not, ap, sym, ◌∙◌, inl, inr}
use Rattle.std.proofs.lemmas.Bool.{lt-ltb, le-ltb, cases_Bool, cases_lt}
use Rattle.std.specs.Char.{is_digit}
use Rattle.std.specs.List.{list_all}
use Rattle.std.specs.Str.Parse.{AllDigits, IsNumeral, digits_value, without_leading_plus}
use Rattle.proxy_pages.specs.Delays.{is_numeral, ms_in}
use Rattle.proxy_pages.specs.declared.delay.Delay.{Delay}
use Rattle.proxy_pages.specs.declared.delay.TheConstants.{MAX_DRAIN_AFTER_MS}

-- a test for both is a test for each
both : (one other : Bool) → (one && other) ≡ true → (one ≡ true) × (other ≡ true)
both true true e = (refl, refl)
both true false e = absurd (let h = e in cc)
both false other e = absurd (let h = e in cc)

all_digits : (digits : List ℕ) → list_all (λ c. is_digit c 10) digits ≡ true → AllDigits 10 digits
all_digits [] e = tt
all_digits (c ∷ digits) e =
    let (first, others) = both (is_digit c 10) (list_all (λ c. is_digit c 10) digits) e in
    (grind (arith, first), all_digits digits others)

from_digits : (digits : List ℕ) → AllDigits 10 digits → list_all (λ c. is_digit c 10) digits ≡ true
from_digits [] all = refl
from_digits (c ∷ digits) (first, others) = grind (arith, first, from_digits digits others)

-- the test for a numeral tells that it is one
pub numeral_is : (digits : List ℕ) → is_numeral digits ≡ true → IsNumeral 10 digits
numeral_is digits e =
    let (some, all) = both (nat_lt 0 (length digits)) (list_all (λ c. is_digit c 10) digits) e in
    (grind (arith, some), all_digits digits all)

pub is_numeral_of : (digits : List ℕ) → IsNumeral 10 digits → is_numeral digits ≡ true
is_numeral_of digits (some, all) = grind (arith, some, from_digits digits all)

module _ (text : List ℕ) where
  abbrev pub digits : List ℕ
  digits = without_leading_plus text

  abbrev pub value : ℕ
  value = digits_value 10 digits

  by : (one other : Bool) → (is_numeral digits ≡ one) → (nat_lt MAX_DRAIN_AFTER_MS value ≡ other)
      → ms_in text ≡ cond (one && not other) (Delay.Ms value) Delay.Bad
  by one other numeral many = ap (λ b. cond (b && not (nat_lt MAX_DRAIN_AFTER_MS value)) (Delay.Ms value) Delay.Bad) numeral
      ∙ ap (λ b. cond (one && not b) (Delay.Ms value) Delay.Bad) many

  -- a numeral of so many milliseconds
  pub told : (ms : ℕ) → IsNumeral 10 digits → ms ≡ value → ms ≤ MAX_DRAIN_AFTER_MS → Delay.Ms ms ≡ ms_in text
  told ms is same few =
      ap Delay.Ms same ∙ sym (by true false (is_numeral_of digits is) (le-ltb MAX_DRAIN_AFTER_MS value (rw same at few)))

  -- one of too many
  pub too_many : (ms : ℕ) → IsNumeral 10 digits → ms ≡ value → MAX_DRAIN_AFTER_MS < ms → Delay.Bad ≡ ms_in text
  too_many ms is same many =
      sym (by true true (is_numeral_of digits is) (lt-ltb MAX_DRAIN_AFTER_MS value (rw same at many)))

  -- none
  pub untold : (IsNumeral 10 digits × (value < 2 ^ 64) → ⊥) → Delay.Bad ≡ ms_in text
  untold none = elim (cases_Bool (is_numeral digits)) [
    | inl is ↦ elim (cases_lt value (2 ^ 64)) [
      | inl less ↦ absurd (none (numeral_is digits is, less))
      | inr more ↦ sym (by true true is (lt-ltb MAX_DRAIN_AFTER_MS value (omega (arith, more))))
    ]
    | inr isnt ↦ sym (by false (nat_lt MAX_DRAIN_AFTER_MS value) isnt refl)
  ]

-- What can be printed.
use Rattle.std.proofs.Common.{◌≡◌, ◌∙◌, ◌++◌, ◌≤◌, ◌<◌, ◌+◌, ◌^◌, ◌⊎◌, ℕ, zero, suc, List, [], ◌∷◌, true, map, refl, arith, inl}
use Rattle.std.specs.Prelude.{decimal}
use Rattle.std.specs.Char.{encode_utf8}
use Rattle.std.specs.Int.Digits.{AllBelowBase, digits_of}
use Rattle.std.proofs.lemmas.Fmt.{decimal_digit, decimal-digits_of}
use Rattle.std.proofs.lemmas.Int.Digits.{all_below_base_digits_of}
use Rattle.std.proofs.lemmas.List.Folds.{list_all-append}
use Rattle.settings_fault.specs.Lines.{is_printable, ArePrintable}

-- pieces that can be printed can be so together
pub printable_append : (xs ys : List ℕ) → ArePrintable xs → ArePrintable ys → ArePrintable (xs ++ ys)
printable_append xs ys front back = list_all-append is_printable xs ys ∙ grind (arith, front, back)

-- bytes from 32 on but 127
pub printable_byte : (b : ℕ) → 32 ≤ b → (b < 127) ⊎ (128 ≤ b) → is_printable b ≡ true
printable_byte b low high = grind (arith, low, high)

-- digits
pub printable_digits : (ds : List ℕ) → AllBelowBase 10 ds → ArePrintable (map (λ d. 48 + d) ds)
printable_digits [] below = refl
printable_digits (d ∷ ds) below =
    let first : is_printable (48 + d) ≡ true = printable_byte (48 + d) (omega arith) (inl (omega (arith, below.0))) in
    let rest : ArePrintable (map (λ d. 48 + d) ds) = printable_digits ds below.1 in
    grind (arith, first, rest)

-- the digits of a number
pub printable_decimal : (n : ℕ) → n < 2 ^ 64 → ArePrintable (decimal n)
printable_decimal zero small = rw (decimal_digit 0 (omega arith)) refl
printable_decimal (suc n) small =
    rw (decimal-digits_of (suc n) (omega arith) small) (printable_digits (digits_of 10 (suc n)) (all_below_base_digits_of 10 (suc n) (omega arith)))

-- a character that is no control character
pub printable_character : (c : ℕ) → ((32 ≤ c) × (c < 127)) ⊎ (160 ≤ c) → ArePrintable (encode_utf8 c)
unfolding encode_utf8
printable_character c shown = grind (arith, shown, printable_byte)

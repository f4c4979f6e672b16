-- A number in its one spelling.
use Rattle.std.proofs.Common.{◌≡◌, ◌≢◌, ◌<◌, ◌^◌, ℕ, ℤ, pos, negsuc, true, false, ◌&&◌, ◌⊎◌, List, Some, None, Result, Ok, Err, inl, inr, refl, sym, ap, ◌∙◌, subst}
use Rattle.std.specs.Fmt.{signed_decimal}
use Rattle.std.specs.Int.{w64}
use Rattle.std.specs.Int.Signed.{mag}
use Rattle.std.specs.Int.RustNames.{FitsSigned}
use Rattle.std.specs.Ordering.{int_eq}
use Rattle.std.specs.Str.{bytes_eq}
use Rattle.std.specs.Str.Parse.{signed_digits_value, ParsesSigned, IsNumeral, without_leading_sign}
use Rattle.std.proofs.lemmas.Bool.{cases_Bool, and_parts}
use Rattle.std.proofs.lemmas.Bool.Decides.{Decides-ltb, Decides-int_eq}
use Rattle.std.proofs.lemmas.Slice.Eq.{bytes_eq-Decides}
use Rattle.std.proofs.lemmas.Fmt.{parse-signed_decimal}
use Rattle.stub_server.specs.Number.{number_in}
use Rattle.resp_core.specs.ValueLimits.{is_long}

pub mag_long : (n : ℤ) → is_long n ≡ true → mag n < 2 ^ 63
mag_long (pos n) h = (Decides-ltb n (2 ^ 63)).0 h
mag_long (negsuc n) h = (Decides-ltb n (2 ^ 63)).0 h

pub long_mag : (n : ℤ) → mag n < 2 ^ 63 → is_long n ≡ true
long_mag (pos n) h = (Decides-ltb n (2 ^ 63)).1 h
long_mag (negsuc n) h = (Decides-ltb n (2 ^ 63)).1 h

-- what the spelling is parsed as
pub parsed : {E : Type 0} (bytes : List ℕ) (n : ℤ) (r : Result ℤ E) → bytes ≡ signed_decimal n → is_long n ≡ true → ParsesSigned w64 10 bytes r → r ≡ Ok n
parsed bytes n r e h p = let m = mag_long n h in parse-signed_decimal w64 n bytes r (record { sfits = m }) m e p

-- the number that a spelling's digits write is the number
digits_of_spelling : (bytes : List ℕ) (n : ℤ) → bytes ≡ signed_decimal n → is_long n ≡ true → signed_digits_value 10 bytes ≡ n
digits_of_spelling bytes n e h =
    let v = signed_digits_value 10 bytes in
    elim (cases_Bool (int_eq v n)) [
      | inl f ↦ (Decides-int_eq v n).0 f
      | inr f ↦
          let differs : v ≢ n = λ q. let t = (Decides-int_eq v n).1 q in let u : false ≡ true = sym f ∙ t in cc in
          let none : IsNumeral 10 (without_leading_sign bytes) × FitsSigned w64 v → ⊥ = λ q. let r : Result ℤ ℕ = Ok v in let s : r ≡ Ok n = parsed bytes n r e h (q, refl) in differs cc in
          let r : Result ℤ ℕ = Err 0 in let s : r ≡ Ok n = parsed bytes n r e h none in absurd cc
    ]

pub number_in-spelling : (bytes : List ℕ) (n : ℤ) → bytes ≡ signed_decimal n → is_long n ≡ true → number_in bytes ≡ Some n
number_in-spelling bytes n e h = rw (digits_of_spelling bytes n e h, h, (bytes_eq-Decides (signed_decimal n) bytes).1 (sym e)) refl

number_in-cases : (bytes : List ℕ) → ((n : ℤ) × (number_in bytes ≡ Some n) × (bytes ≡ signed_decimal n) × (is_long n ≡ true)) ⊎ (number_in bytes ≡ None)
number_in-cases bytes =
    let v = signed_digits_value 10 bytes in
    elim (cases_Bool (is_long v && bytes_eq (signed_decimal v) bytes)) [
      | inl f ↦ let p = and_parts (is_long v) (bytes_eq (signed_decimal v) bytes) f in inl (v, rw f refl, sym ((bytes_eq-Decides (signed_decimal v) bytes).0 p.1), p.0)
      | inr f ↦ inr (rw f refl)
    ]

pub spelling-number_in : (bytes : List ℕ) (n : ℤ) → number_in bytes ≡ Some n → (bytes ≡ signed_decimal n) × (is_long n ≡ true)
spelling-number_in bytes n e =
    elim (number_in-cases bytes) [
      | inl f ↦ let (m, read_as, spelled, long) = f in let q : Some m ≡ Some n = sym read_as ∙ e in let is : m ≡ n = cc in (spelled ∙ ap signed_decimal is, subst (λ (z : ℤ). is_long z ≡ true) is long)
      | inr f ↦ let q : None ≡ Some n = sym f ∙ e in absurd cc
    ]

-- bytes that are no number's spelling
pub number_in-none : (bytes : List ℕ) → ((n : ℤ) → bytes ≡ signed_decimal n → is_long n ≡ true → ⊥) → number_in bytes ≡ None
number_in-none bytes h =
    elim (number_in-cases bytes) [
      | inl f ↦ let (m, _, spelled, long) = f in absurd (h m spelled long)
      | inr f ↦ f
    ]

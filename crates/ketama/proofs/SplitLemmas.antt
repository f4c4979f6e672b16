-- Lists cut in two at the first of some byte.
use Rattle.std.proofs.Common.{◌≡◌, ℕ, zero, suc, ◌+◌, ◌<◌, ◌≤◌, Bool, true, false, eqb, ltb, ◌||◌, List, [], ◌∷◌, ◌++◌, length, take, drop, get_or, refl, sym, ◌∙◌, ap, inl, inr, Some, None, Contains, position, arith}
use Rattle.std.specs.List.{before_first, after_first, list_any, position_or_len}
use Rattle.std.proofs.lemmas.Bool.{ne_eqb, eq-eqb, eqb-true, eqb-false, ltb-false, cases_Bool}
use Rattle.std.proofs.lemmas.List.{take_at, take-append-drop, drop_more, get_or-take, length-take, get_or_at, length-append}
use Rattle.std.proofs.lemmas.List.Quantifiers.{position-Some}
use Rattle.ketama.specs.Key.{IsSplitAt}

absent-head : (byte x : ℕ) (xs : List ℕ) → ¬ Contains (x ∷ xs) byte → eqb x byte ≡ false
absent-head byte x xs absent = ne_eqb x byte (λ e. absent (0, omega arith, e))

absent-tail : (byte x : ℕ) (xs : List ℕ) → ¬ Contains (x ∷ xs) byte → ¬ Contains xs byte
absent-tail byte x xs absent (k, lt, e) = absent (suc k, omega arith, e)

-- what comes before the first such byte is counted
position_or_len-split : (byte : ℕ) (before after : List ℕ) → ¬ Contains before byte → position_or_len (λ b. eqb b byte) (before ++ byte ∷ after) ≡ length before
position_or_len-split byte [] after absent = rw (eq-eqb byte byte refl) refl
position_or_len-split byte (x ∷ before) after absent =
    rw (absent-head byte x before absent, position_or_len-split byte before after (absent-tail byte x before absent)) (omega arith)

pub before_first-split : (byte : ℕ) (before after : List ℕ) → ¬ Contains before byte → before_first (λ b. eqb b byte) (before ++ byte ∷ after) ≡ before
before_first-split byte before after absent =
    rw (position_or_len-split byte before after absent) (take_at before (byte ∷ after) (length before) refl)

drop_past : (n x : ℕ) (xs : List ℕ) → drop (1 + n + 1) (x ∷ xs) ≡ drop (n + 1) xs
drop_past n x xs = let e : 1 + n + 1 ≡ suc (n + 1) = omega arith in rw e refl

pub after_first-split : (byte : ℕ) (before after : List ℕ) → ¬ Contains before byte → after_first (λ b. eqb b byte) (before ++ byte ∷ after) ≡ after
after_first-split byte [] after absent = rw (eq-eqb byte byte refl) refl
after_first-split byte (x ∷ before) after absent =
    rw (absent-head byte x before absent) (drop_past _ x (before ++ byte ∷ after) ∙ after_first-split byte before after (absent-tail byte x before absent))

pub list_any-split : (byte : ℕ) (before after : List ℕ) → list_any (λ b. eqb b byte) (before ++ byte ∷ after) ≡ true
list_any-split byte [] after = rw (eq-eqb byte byte refl) refl
list_any-split byte (x ∷ before) after = rw (list_any-split byte before after) (elim (eqb x byte) as (λ t. (t || true) ≡ true) [ true ↦ refl | false ↦ refl ])

-- without such a byte
pub list_any-absent : (byte : ℕ) (xs : List ℕ) → ¬ Contains xs byte → list_any (λ b. eqb b byte) xs ≡ false
list_any-absent byte [] absent = refl
list_any-absent byte (x ∷ xs) absent = rw (absent-head byte x xs absent) (list_any-absent byte xs (absent-tail byte x xs absent))

pub after_first-absent : (byte : ℕ) (xs : List ℕ) → ¬ Contains xs byte → after_first (λ b. eqb b byte) xs ≡ []
after_first-absent byte [] absent = refl
after_first-absent byte (x ∷ xs) absent =
    rw (absent-head byte x xs absent) (drop_past _ x xs ∙ after_first-absent byte xs (absent-tail byte x xs absent))

-- what `position` finds
pub IsSplitAt-position : (byte i : ℕ) (xs : List ℕ) → position (λ b. eqb b byte) xs ≡ Some i → IsSplitAt byte xs (take i xs) (drop (i + 1) xs)
IsSplitAt-position byte i xs found =
    let (in_list, passes, none_before) = position-Some (λ b. eqb b byte) xs i byte found in
    let at : get_or xs i byte ≡ byte = eqb-true (get_or xs i byte) byte passes in
    record {
      parts = sym (take-append-drop i xs) ∙ ap (λ rest. take i xs ++ rest) (drop_more xs i byte in_list ∙ ap (λ b. b ∷ drop (i + 1) xs) at);
      first = λ (k, lt, e).
          let below : k < i = omega (arith, length-take i xs) in
          eqb-false (get_or xs k byte) byte (none_before k below) (sym (get_or-take i xs k byte below) ∙ e);
    }

absent-counted : (byte : ℕ) (xs : List ℕ) → length xs ≤ position_or_len (λ b. eqb b byte) xs → ¬ Contains xs byte
absent-counted byte [] counted (k, lt, e) = omega arith
absent-counted byte (x ∷ xs) counted (zero, lt, e) =
    let stops = rw (eq-eqb x byte e) at counted in
    omega arith
absent-counted byte (x ∷ xs) counted (suc k, lt, e) =
    elim (cases_Bool (eqb x byte)) [
      | inl here ↦ let stops = rw here at counted in omega arith
      | inr there ↦ let counted_on = rw there at counted in absent-counted byte xs (omega arith) (k, omega arith, e)
    ]

pub absent-position : (byte : ℕ) (xs : List ℕ) → position (λ b. eqb b byte) xs ≡ None → ¬ Contains xs byte
absent-position byte xs missed =
    let test : Bool = ltb (position_or_len (λ b. eqb b byte) xs) (length xs) in
    elim (cases_Bool test) [
      | inl found ↦ let none = rw found at missed in cc
      | inr past ↦ absent-counted byte xs (ltb-false (position_or_len (λ b. eqb b byte) xs) (length xs) past)
    ]

pub Contains-split : (byte : ℕ) (before after : List ℕ) → Contains (before ++ byte ∷ after) byte
Contains-split byte before after =
    (length before, omega (arith, length-append before (byte ∷ after)), get_or_at before byte after byte (length before) refl)

-- What a value's texts say of it: none is shorter than the one spelling, and the value is plain and within the limits.
use Rattle.std.proofs.Common.{◌≡◌, ◌≢◌, ◌<◌, ◌≤◌, ◌^◌, ◌+◌, ℕ, zero, suc, ℤ, pos, neg_ℤ, List, [], ◌∷◌, ◌++◌, length, true, decimal, inl, inr, refl, sym, ap, subst, arith, ne_eqb}
use Rattle.std.specs.Fmt.{signed_decimal}
use Rattle.std.specs.List.{AllByRecursion, list_all}
use Rattle.std.proofs.lemmas.Fmt.{length-decimal-le}
use Rattle.std.proofs.lemmas.List.{length-append}
use Rattle.std.proofs.lemmas.Str.Parse.{digits_value_short}
use Rattle.resp_core.specs.Tree.{Trees, simple, fault, whole, bulk, null_bulk, list, null_list, no_trees, tree, members, is_text_byte, are_plain_trees}
use Rattle.resp_core.specs.Grammar.{IsDigit, IsLength, IsSigned, IsInteger, max_bulk, number_after, AreTexts}
use Rattle.resp_core.specs.Text.{line, line_end, text, texts}
use Rattle.resp_core.specs.ValueLimits.{IsLong, AreWithin}
use Rattle.resp_core.specs.Laws.{SpellingIsShortest, ReadValuesArePlain}
use Rattle.resp_core.proofs.RoundTripLemmas.{own}

-- the one spelling of a number has no more digits than another
pub length_decimal-le : (ds : List ℕ) (n : ℕ) → AllByRecursion IsDigit ds → 0 < length ds → number_after 0 ds ≡ n → n < 2 ^ 64 → length (decimal n) ≤ length ds
length_decimal-le ds n all some value small =
    length-decimal-le (length ds) n some (subst (λ (z : ℕ). z < 10 ^ length ds) value (digits_value_short own ds (length ds) all (omega arith))) small

length_line-le : (kind : ℕ) (xs ys : List ℕ) → length xs ≤ length ys → length (line kind xs) ≤ length (line kind ys)
length_line-le kind xs ys l = omega (arith, l, length-append (kind ∷ xs) line_end, length-append (kind ∷ ys) line_end)

pub length_number-le : (limit : ℕ) (ds : List ℕ) (n : ℕ) → IsLength limit ds n → length (decimal n) ≤ length ds
length_number-le limit ds n g =
    length_decimal-le ds n g.each g.some g.value (omega (arith, g.value, digits_value_short own ds 10 g.each g.few))

length_negative-le : (ds : List ℕ) (m : ℕ) → AllByRecursion IsDigit ds → 0 < length ds → number_after 0 ds ≡ m → m ≤ 2 ^ 63 → length (signed_decimal (neg_ℤ (pos m))) ≤ 1 + length ds
length_negative-le ds zero all some value small = omega (arith, length_decimal-le ds 0 all some value (omega arith))
length_negative-le ds (suc m) all some value small = omega (arith, length_decimal-le ds (suc m) all some value (omega arith))

length_integer-le : (bytes : List ℕ) (n : ℤ) → IsInteger bytes n → length (signed_decimal n) ≤ length bytes
length_integer-le bytes n g = by g.value
  where
    by : IsSigned g.sign (number_after 0 g.digits) n → length (signed_decimal n) ≤ length bytes
    by (inl (s, small, e)) =
        omega (arith, ap (λ z. length (signed_decimal z)) e, ap length g.is, length-append g.sign g.digits, length_decimal-le g.digits (number_after 0 g.digits) g.each g.some refl (omega arith))
    by (inr (s, small, e)) =
        omega (arith, ap (λ z. length (signed_decimal z)) e, ap length g.is, length-append g.sign g.digits, ap length s, length_negative-le g.digits (number_after 0 g.digits) g.each g.some refl small)

mutual
  pub spelling_is_shortest : SpellingIsShortest
  spelling_is_shortest most left b (simple s) g = omega (arith, ap length g.1)
  spelling_is_shortest most left b (fault s) g = omega (arith, ap length g.1)
  spelling_is_shortest most left b (whole n) (bytes, number, is) = omega (arith, ap length is, length_line-le 58 (signed_decimal n) bytes (length_integer-le bytes n number))
  spelling_is_shortest most left b (bulk s) (digits, number, is) =
      omega (arith, ap length is, length_line-le 36 (decimal (length s)) digits (length_number-le max_bulk digits (length s) number), length-append (line 36 (decimal (length s))) s, length-append (line 36 (decimal (length s)) ++ s) line_end, length-append (line 36 digits) s, length-append (line 36 digits ++ s) line_end)
  spelling_is_shortest most left b null_bulk g = omega (arith, ap length g)
  spelling_is_shortest most zero b (list ts) g = absurd g
  spelling_is_shortest most (suc left) b (list ts) (digits, rest, number, is, inside) =
      omega (arith, ap length is, length_line-le 42 (decimal (length (members ts))) digits (length_number-le most digits (length (members ts)) number), length-append (line 42 (decimal (length (members ts)))) (texts ts), length-append (line 42 digits) rest, spellings_are_shortest most left rest ts inside)
  spelling_is_shortest most zero b null_list g = absurd g
  spelling_is_shortest most (suc left) b null_list g = omega (arith, ap length g)

  pub spellings_are_shortest : (most left : ℕ) (b : List ℕ) (ts : Trees) → AreTexts most left b ts → length (texts ts) ≤ length b
  spellings_are_shortest most left b no_trees g = omega arith
  spellings_are_shortest most left b (tree t ts) (front, back, split, t_text, others) =
      omega (arith, ap length split, length-append front back, length-append (text t) (texts ts), spelling_is_shortest most left front t t_text, spellings_are_shortest most left back ts others)

plain_line : (s : List ℕ) → AllByRecursion (λ b. (b ≢ 13) × (b ≢ 10)) s → list_all is_text_byte s ≡ true
plain_line [] all = refl
plain_line (c ∷ s) all = rw (ne_eqb c 13 all.0.0, ne_eqb c 10 all.0.1, plain_line s all.1) refl

long_negative : (m : ℕ) → m ≤ 2 ^ 63 → IsLong (neg_ℤ (pos m))
long_negative zero l = omega arith
long_negative (suc m) l = omega (arith, l)

long_integer : (bytes : List ℕ) (n : ℤ) → IsInteger bytes n → IsLong n
long_integer bytes n g = by g.value
  where
    by : IsSigned g.sign (number_after 0 g.digits) n → IsLong n
    by (inl (s, small, e)) = subst (λ (z : ℤ). IsLong z) (sym e) small
    by (inr (s, small, e)) = subst (λ (z : ℤ). IsLong z) (sym e) (long_negative (number_after 0 g.digits) small)

mutual
  pub read_values_are_plain : ReadValuesArePlain
  read_values_are_plain most left b (simple s) g = (plain_line s g.0.each, g.0.few)
  read_values_are_plain most left b (fault s) g = (plain_line s g.0.each, g.0.few)
  read_values_are_plain most left b (whole n) g = (refl, long_integer g.0 n g.1)
  read_values_are_plain most left b (bulk s) g = (refl, g.1.within)
  read_values_are_plain most left b null_bulk g = (refl, tt)
  read_values_are_plain most zero b (list ts) g = absurd g
  read_values_are_plain most (suc left) b (list ts) (_, rest, number, _, inside) = let q = members_are_plain most left rest ts inside in (q.0, (number.within, q.1))
  read_values_are_plain most zero b null_list g = absurd g
  read_values_are_plain most (suc left) b null_list g = (refl, tt)

  members_are_plain : (most left : ℕ) (b : List ℕ) (ts : Trees) → AreTexts most left b ts → (are_plain_trees ts ≡ true) × AreWithin most left ts
  members_are_plain most left b no_trees g = (refl, tt)
  members_are_plain most left b (tree t ts) (front, back, _, t_text, others) =
      let p = read_values_are_plain most left front t t_text in
      let q = members_are_plain most left back ts others in
      (rw (p.0, q.0) refl, (p.1, q.1))

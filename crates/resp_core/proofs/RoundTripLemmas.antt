-- The one spelling of a value is read as that value.
use Rattle.std.proofs.Common.{◌≡◌, ◌≢◌, ◌<◌, ◌≤◌, ◌^◌, ℕ, zero, suc, ℤ, pos, negsuc, neg_ℤ, List, [], ◌∷◌, length, true, decimal, inl, inr, refl, sym, ap, arith, rules}
use Rattle.std.specs.List.{AllByRecursion, list_all}
use Rattle.std.proofs.lemmas.Bool.{and_parts, not-true, eqb-false}
use Rattle.std.proofs.lemmas.Fmt.{digits_decimal, digits_value-decimal, decimal_nonempty, length-decimal-le}
use Rattle.std.proofs.lemmas.Str.Parse.{IsNumeralModel, numerals_by_fold}
use Rattle.resp_core.specs.Tree.{Trees, simple, fault, whole, bulk, null_bulk, list, null_list, no_trees, tree, members, is_text_byte, is_plain_tree, are_plain_trees}
use Rattle.resp_core.specs.Grammar.{IsDigit, IsLength, IsInteger, max_bulk, number_after, AreTexts}
use Rattle.resp_core.specs.Text.{line, text, texts}
use Rattle.resp_core.specs.ValueLimits.{IsLong, AreWithin}
use Rattle.resp_core.specs.Laws.{TextIsRead}

pub own : IsNumeralModel (AllByRecursion IsDigit) (number_after 0)
own = numerals_by_fold (AllByRecursion IsDigit) (search rules) number_after (search rules)

is_line : (s : List ℕ) → list_all is_text_byte s ≡ true → AllByRecursion (λ b. (b ≢ 13) × (b ≢ 10)) s
is_line [] e = tt
is_line (c ∷ s) e =
    let p = and_parts (is_text_byte c) (list_all is_text_byte s) e in
    let q = and_parts _ _ p.0 in
    ((eqb-false c 13 (not-true _ q.0), eqb-false c 10 (not-true _ q.1)), is_line s p.1)

pub is_length : (most n : ℕ) → most < 2 ^ 32 → n ≤ most → IsLength most (decimal n) n
is_length most n small h = record {
  some = decimal_nonempty n (omega arith);
  few = length-decimal-le 10 n (omega arith) (omega arith) (omega arith);
  each = digits_decimal own n (omega arith);
  value = digits_value-decimal own n (omega arith);
  within = h;
}

integer_text : (n : ℤ) → IsLong n → (bytes : List ℕ) × IsInteger bytes n × (text (whole n) ≡ line 58 bytes)
integer_text (pos m) h = (
  decimal m,
  record {
    sign = [];
    digits = decimal m;
    is = refl;
    some = decimal_nonempty m (omega arith);
    few = omega (arith, length-decimal-le 19 m (omega arith) (omega arith) (omega arith));
    each = digits_decimal own m (omega arith);
    value = inl (inl refl, omega (arith, digits_value-decimal own m (omega arith)), ap pos (sym (digits_value-decimal own m (omega arith))));
  },
  refl,
)
integer_text (negsuc m) h = (
  45 ∷ decimal (suc m),
  record {
    sign = 45 ∷ [];
    digits = decimal (suc m);
    is = refl;
    some = decimal_nonempty (suc m) (omega arith);
    few = omega (arith, length-decimal-le 19 (suc m) (omega arith) (omega arith) (omega arith));
    each = digits_decimal own (suc m) (omega arith);
    value = inr (refl, omega (arith, digits_value-decimal own (suc m) (omega arith)), ap (λ z. neg_ℤ (pos z)) (sym (digits_value-decimal own (suc m) (omega arith))));
  },
  refl,
)

mutual
  pub text_is_read : TextIsRead
  text_is_read most left (simple s) small h e = (record { each = is_line s e; few = h }, refl)
  text_is_read most left (fault s) small h e = (record { each = is_line s e; few = h }, refl)
  text_is_read most left (whole n) small h e = integer_text n h
  text_is_read most left (bulk s) small h e = (decimal (length s), is_length max_bulk (length s) (omega arith) h, refl)
  text_is_read most left null_bulk small h e = refl
  text_is_read most zero (list ts) small h e = absurd h
  text_is_read most (suc left) (list ts) small h e = (decimal (length (members ts)), texts ts, is_length most (length (members ts)) small h.0, refl, texts_are_read most left ts small h.1 e)
  text_is_read most zero null_list small h e = absurd h
  text_is_read most (suc left) null_list small h e = refl

  texts_are_read : (most left : ℕ) (ts : Trees) → most < 2 ^ 32 → AreWithin most left ts → are_plain_trees ts ≡ true → AreTexts most left (texts ts) ts
  texts_are_read most left no_trees small h e = refl
  texts_are_read most left (tree t ts) small h e =
      let p = and_parts (is_plain_tree t) (are_plain_trees ts) e in
      (text t, texts ts, refl, text_is_read most left t small h.0 p.0, texts_are_read most left ts small h.1 p.1)

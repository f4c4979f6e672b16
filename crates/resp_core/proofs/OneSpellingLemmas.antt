-- A text of a value that is as long as its one spelling is that spelling.
use Rattle.std.proofs.Common.{◌≡◌, ◌<◌, ◌≤◌, ◌^◌, ◌+◌, ◌*◌, ◌-◌, ℕ, zero, suc, ℤ, pos, neg_ℤ, List, [], ◌∷◌, ◌++◌, length, decimal, inl, inr, refl, sym, ap, ◌∙◌, arith}
use Rattle.std.specs.Fmt.{signed_decimal}
use Rattle.std.specs.List.{AllByRecursion}
use Rattle.std.proofs.lemmas.Fmt.{digits_decimal, digits_value-decimal}
use Rattle.std.proofs.lemmas.List.{length-append}
use Rattle.std.proofs.lemmas.Str.Parse.{digits_value_short}
use Rattle.resp_core.specs.Tree.{Trees, simple, fault, whole, bulk, null_bulk, list, null_list, no_trees, tree, members}
use Rattle.resp_core.specs.Grammar.{IsDigit, IsLength, IsSigned, IsInteger, max_bulk, number_after, AreTexts}
use Rattle.resp_core.specs.Text.{line, line_end, text, texts}
use Rattle.resp_core.specs.Laws.{ShortestTextIsSpelling}
use Rattle.resp_core.proofs.RoundTripLemmas.{own}
use Rattle.resp_core.proofs.SpellingLemmas.{length_decimal-le, length_number-le, spelling_is_shortest, spellings_are_shortest}

-- digits that write the same number in as many places are the same
same_digits : (a b : ℕ) (xs ys : List ℕ) → AllByRecursion IsDigit xs → AllByRecursion IsDigit ys → length xs ≡ length ys → number_after a xs ≡ number_after b ys → (a ≡ b) × (xs ≡ ys)
same_digits a b [] [] p q l e = (e, refl)
same_digits a b [] (y ∷ ys) p q l e = absurd (omega (arith, l))
same_digits a b (x ∷ xs) [] p q l e = absurd (omega (arith, l))
same_digits a b (x ∷ xs) (y ∷ ys) p q l e =
    let h = same_digits (a * 10 + (x - 48)) (b * 10 + (y - 48)) xs ys p.1 q.1 (omega (arith, l)) e in
    let first : x ≡ y = omega (arith, h.0, p.0.0, p.0.1, q.0.0, q.0.1) in
    (omega (arith, h.0, p.0.0, p.0.1, q.0.0, q.0.1), ap (λ z. z ∷ xs) first ∙ ap (λ zs. y ∷ zs) h.1)

-- so they are the one spelling of the number
one_decimal : (ds : List ℕ) (n : ℕ) → AllByRecursion IsDigit ds → number_after 0 ds ≡ n → n < 2 ^ 64 → length ds ≡ length (decimal n) → ds ≡ decimal n
one_decimal ds n all value small l =
    (same_digits 0 0 ds (decimal n) all (digits_decimal own n small) l (value ∙ sym (digits_value-decimal own n small))).1

pub one_length : (limit : ℕ) (ds : List ℕ) (n : ℕ) → IsLength limit ds n → n < 2 ^ 64 → length ds ≡ length (decimal n) → ds ≡ decimal n
one_length limit ds n g small l = one_decimal ds n g.each g.value small l

length_line : (kind : ℕ) (xs : List ℕ) → length (line kind xs) ≡ length xs + 3
length_line kind xs = omega (arith, length-append (kind ∷ xs) line_end)

negative : (ds : List ℕ) (m : ℕ) → AllByRecursion IsDigit ds → 0 < length ds → number_after 0 ds ≡ m → m ≤ 2 ^ 63 → length (45 ∷ ds) ≡ length (signed_decimal (neg_ℤ (pos m))) → 45 ∷ ds ≡ signed_decimal (neg_ℤ (pos m))
negative ds zero all some value small l = absurd (omega (arith, l, length_decimal-le ds 0 all some value (omega arith)))
negative ds (suc m) all some value small l = ap (λ zs. 45 ∷ zs) (one_decimal ds (suc m) all value (omega arith) (omega (arith, l)))

one_integer : (bytes : List ℕ) (n : ℤ) → IsInteger bytes n → length bytes ≡ length (signed_decimal n) → bytes ≡ signed_decimal n
one_integer bytes n g l = by g.value
  where
    m : ℕ
    m = number_after 0 g.digits

    by : IsSigned g.sign m n → bytes ≡ signed_decimal n
    by (inl (inl s, small, e)) =
        let is : bytes ≡ g.digits = g.is ∙ ap (λ z. z ++ g.digits) s in
        let places : length g.digits ≡ length (decimal m) = omega (arith, l, ap length is, ap (λ z. length (signed_decimal z)) e) in
        is ∙ one_decimal g.digits m g.each refl (omega arith) places ∙ ap signed_decimal (sym e)
    by (inl (inr s, small, e)) =
        absurd (omega (arith, l, ap length (g.is ∙ ap (λ z. z ++ g.digits) s), ap (λ z. length (signed_decimal z)) e, length_decimal-le g.digits m g.each g.some refl (omega arith)))
    by (inr (s, small, e)) =
        let is : bytes ≡ 45 ∷ g.digits = g.is ∙ ap (λ z. z ++ g.digits) s in
        is ∙ negative g.digits m g.each g.some refl small (omega (arith, l, ap length is, ap (λ z. length (signed_decimal z)) e)) ∙ ap signed_decimal (sym e)

-- no part is shorter than its spelling, so that each is as long
mutual
  pub shortest_text_is_spelling : ShortestTextIsSpelling
  shortest_text_is_spelling most left b (simple s) g l = g.1
  shortest_text_is_spelling most left b (fault s) g l = g.1
  shortest_text_is_spelling most left b (whole n) (bytes, number, is) l =
      is ∙ ap (line 58) (one_integer bytes n number (omega (arith, l, ap length is, length_line 58 bytes, length_line 58 (signed_decimal n))))
  shortest_text_is_spelling most left b (bulk s) (digits, number, is) l =
      let places : length digits ≡ length (decimal (length s)) =
      omega (arith, l, ap length is, length-append (line 36 digits) s, length-append (line 36 digits ++ s) line_end, length-append (line 36 (decimal (length s))) s, length-append (line 36 (decimal (length s)) ++ s) line_end, length_line 36 digits, length_line 36 (decimal (length s))) in
      is ∙ ap (λ z. line 36 z ++ s ++ line_end) (one_length max_bulk digits (length s) number (omega (arith, number.within)) places)
  shortest_text_is_spelling most left b null_bulk g l = g
  shortest_text_is_spelling most zero b (list ts) g l = absurd g
  shortest_text_is_spelling most (suc left) b (list ts) (digits, rest, number, is, inside) l =
      let count = length (members ts) in
      let sum : length digits + length rest ≡ length (decimal count) + length (texts ts) =
      omega (arith, l, ap length is, length-append (line 42 digits) rest, length-append (line 42 (decimal count)) (texts ts), length_line 42 digits, length_line 42 (decimal count)) in
      let d = length_number-le most digits count number in
      let r = spellings_are_shortest most left rest ts inside in
      let small : count < 2 ^ 64 = omega (arith, number.value, digits_value_short own digits 10 number.each number.few) in
      is ∙ ap (λ z. line 42 z ++ rest) (one_length most digits count number small (omega (arith, sum, d, r)))
      ∙ ap (λ z. line 42 (decimal count) ++ z) (shortest_texts_are_spellings most left rest ts inside (omega (arith, sum, d, r)))
  shortest_text_is_spelling most zero b null_list g l = absurd g
  shortest_text_is_spelling most (suc left) b null_list g l = g

  shortest_texts_are_spellings : (most left : ℕ) (b : List ℕ) (ts : Trees) → AreTexts most left b ts → length b ≡ length (texts ts) → b ≡ texts ts
  shortest_texts_are_spellings most left b no_trees g l = g
  shortest_texts_are_spellings most left b (tree t ts) (front, back, split, t_text, others) l =
      let sum : length front + length back ≡ length (text t) + length (texts ts) =
      omega (arith, l, ap length split, length-append front back, length-append (text t) (texts ts)) in
      let f = spelling_is_shortest most left front t t_text in
      let r = spellings_are_shortest most left back ts others in
      split ∙ ap (λ z. z ++ back) (shortest_text_is_spelling most left front t t_text (omega (arith, sum, f, r)))
      ∙ ap (λ z. text t ++ z) (shortest_texts_are_spellings most left back ts others (omega (arith, sum, f, r)))

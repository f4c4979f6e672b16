-- Reading refuses a byte of a value by no number above one that fits its place.
use Rattle.std.proofs.Common.{◌≡◌, ◌≢◌, ◌⊎◌, inl, inr, ⊎_elim, ◌^◌, pos, neg_ℤ, ℕ, zero, suc, ◌+◌, ◌-◌, ◌<◌, ◌≤◌, eqb, List, [], ◌∷◌, ◌++◌, length, Option, Some, None, refl, sym, ap, ◌∙◌, subst, append_assoc, append-nil, arith, eq-eqb, ne_eqb}
use Rattle.std.specs.List.{AllByRecursion}
use Rattle.std.proofs.lemmas.Bool.{cases_Bool}
use Rattle.std.proofs.lemmas.Bool.Decides.{leb_tells}
use Rattle.std.proofs.lemmas.List.{length-append}
use Rattle.resp_core.specs.declared.error.Refusal.{Refusal}
use Rattle.resp_core.specs.declared.error.Refusal.TheVariants.{BadType, BadLength, BadNumber, BadLineEnd, TooLong, TooDeep}
use Rattle.resp_core.specs.Offset.{refusal_number}
use Rattle.resp_core.specs.Tree.{Trees, simple, fault, whole, bulk, list, no_trees, tree, members, trees_of}
use Rattle.resp_core.specs.Text.{line, line_end}
use Rattle.resp_core.specs.Grammar.{IsDigit, IsLength, AreTexts, number_after, max_line, max_bulk}
use Rattle.resp_core.specs.Refusals.{IsLineByte, IsSign, RefusedInLength, RefusedInInteger, RefusedInLine, RefusedInLeaf, RefusedInValue}
use Rattle.resp_core.specs.Reading.{Outcome, found, unfinished, refused, and_then, byte_at, end_at, of_length, of_integer, digits_at, text_at, integer_at, null_end_at, count_at, payload_at, bulk_at, many_at, members_at, list_at, leaf_at, value_at}
use Rattle.resp_core.proofs.reading.PartLemmas.{byte_at_other, byte_at_nil, stops, ends, goes, text_step, text_at_nil, text_13, number_push, bytes-reads}
use Rattle.resp_core.proofs.reading.WholeValueLemmas.{count-reads, value-reads}
use Rattle.resp_core.proofs.refusals.LowestNumberLemmas.{IsJudged, refused_judged, begun_judged, other_judged, behind_judged, then_judged, byte_judged, digits_judged, digits_cr_judged, stops_bad, stops_full, stops_over, stops_empty}

-- what follows the minus of a null
abbrev behind_cr : Unit {0} → List ℕ → Outcome (Unit {0})
behind_cr u rest = byte_at 10 (λ _. BadLineEnd) rest

abbrev behind_one : Unit {0} → List ℕ → Outcome (Unit {0})
behind_one u rest = and_then (byte_at 13 (λ _. BadLength) rest) behind_cr

abbrev null_count : Unit {0} → List ℕ → Outcome (Option ℕ)
null_count u rest = found None rest

-- a length
module _ (limit : ℕ) where
  digits_count : (x : ℕ) (xs : List ℕ) → x ≢ 45 → count_at limit (x ∷ xs) ≡ and_then (digits_at (of_length limit) 0 0 (x ∷ xs)) (λ n rest. found (Some n) rest)
  unfolding count_at
  digits_count x xs e = rw (ne_eqb x 45 e) refl

  nil_count : count_at limit [] ≡ and_then (digits_at (of_length limit) 0 0 []) (λ n rest. found (Some n) rest)
  unfolding count_at
  nil_count = refl

  -- digits and a byte, which is no minus behind none
  length_digits : (ds : List ℕ) (c m : ℕ) → AllByRecursion IsDigit ds → (ds ≡ [] → c ≢ 45) → IsJudged (digits_at (of_length limit) 0 0) ds c m → IsJudged (count_at limit) ds c m
  length_digits [] c m all e h =
      other_judged (count_at limit) c m (λ cs. and_then (digits_at (of_length limit) 0 0 cs) (λ n rest. found (Some n) rest)) [] [] nil_count (digits_count c [] (e refl))
      (then_judged (digits_at (of_length limit) 0 0) (λ n rest. found (Some n) rest) [] c m h)
  length_digits (x ∷ ds) c m all e h =
      let no : x ≢ 45 = λ f. omega (arith, all.0.0, f) in
      other_judged (count_at limit) c m (λ cs. and_then (digits_at (of_length limit) 0 0 cs) (λ n rest. found (Some n) rest)) [] (x ∷ ds) (digits_count x ds no) (digits_count x (ds ++ c ∷ []) no)
      (then_judged (digits_at (of_length limit) 0 0) (λ n rest. found (Some n) rest) (x ∷ ds) c m h)

  length_cr : (ds : List ℕ) (c : ℕ) → AllByRecursion IsDigit ds → c ≢ 10 → IsJudged (count_at limit) (ds ++ 13 ∷ []) c 105
  length_cr [] c all e =
      let no : ◌≢◌ {A = ℕ} 13 45 = λ f. omega (arith, f) in
      other_judged (count_at limit) c 105 (λ cs. and_then (digits_at (of_length limit) 0 0 cs) (λ n rest. found (Some n) rest)) [] (13 ∷ []) (digits_count 13 [] no) (digits_count 13 (c ∷ []) no)
      (then_judged (digits_at (of_length limit) 0 0) (λ n rest. found (Some n) rest) (13 ∷ []) c 105 (digits_cr_judged (of_length limit) [] c tt e))
  length_cr (x ∷ ds) c all e =
      let no : x ≢ 45 = λ f. omega (arith, all.0.0, f) in
      other_judged (count_at limit) c 105 (λ cs. and_then (digits_at (of_length limit) 0 0 cs) (λ n rest. found (Some n) rest)) [] (x ∷ ds ++ 13 ∷ []) (digits_count x (ds ++ 13 ∷ []) no) (digits_count x ((ds ++ 13 ∷ []) ++ c ∷ []) no)
      (then_judged (digits_at (of_length limit) 0 0) (λ n rest. found (Some n) rest) (x ∷ ds ++ 13 ∷ []) c 105 (digits_cr_judged (of_length limit) (x ∷ ds) c all e))

  count_null : (xs : List ℕ) → count_at limit (45 ∷ xs) ≡ and_then (and_then (byte_at 49 (λ _. BadLength) xs) behind_one) null_count
  unfolding count_at null_end_at
  count_null xs = refl

  count_one : (xs : List ℕ) → count_at limit (45 ∷ 49 ∷ xs) ≡ and_then (and_then (byte_at 13 (λ _. BadLength) xs) behind_cr) null_count
  unfolding count_at null_end_at byte_at
  count_one xs = refl

  count_cr : (xs : List ℕ) → count_at limit (45 ∷ 49 ∷ 13 ∷ xs) ≡ and_then (byte_at 10 (λ _. BadLineEnd) xs) null_count
  unfolding count_at null_end_at byte_at
  count_cr xs = refl

  pub length_judged : (came : List ℕ) (c m : ℕ) → RefusedInLength limit came c m → IsJudged (count_at limit) came c m
  length_judged came c m (RefusedInLength.no_digit all e f g) =
      length_digits came c 103 all g (digits_judged (of_length limit) came c 103 all (λ count n l p q. (BadLength, stops_bad (of_length limit) count n c f e, omega arith)))
  length_judged came c m (RefusedInLength.cr_behind_no_digit e f) =
      subst (λ (z : List ℕ). IsJudged (count_at limit) z c 103) (sym e) (subst (λ (z : ℕ). IsJudged (count_at limit) [] z 103) (sym f)
      (length_digits [] 13 103 tt (λ _ g. omega (arith, g)) (digits_judged (of_length limit) [] 13 103 tt (λ count n l p q. (BadLength, ap (λ z. digits_at (of_length limit) z n (13 ∷ [])) p ∙ stops_empty (of_length limit) n [], omega arith)))))
  length_judged came c m (RefusedInLength.no_one_behind_minus e f) =
      subst (λ (z : List ℕ). IsJudged (count_at limit) z c 103) (sym e)
      (behind_judged (count_at limit) c 103 _ (45 ∷ []) [] count_null
      (then_judged (λ b. and_then (byte_at 49 (λ _. BadLength) b) behind_one) null_count [] c 103 (then_judged (byte_at 49 (λ _. BadLength)) behind_one [] c 103 (byte_judged 49 (λ _. BadLength) c 103 f (omega arith)))))
  length_judged came c m (RefusedInLength.no_cr_behind_minus_one e f) =
      subst (λ (z : List ℕ). IsJudged (count_at limit) z c 103) (sym e)
      (behind_judged (count_at limit) c 103 _ (45 ∷ 49 ∷ []) [] count_one
      (then_judged (λ b. and_then (byte_at 13 (λ _. BadLength) b) behind_cr) null_count [] c 103 (then_judged (byte_at 13 (λ _. BadLength)) behind_cr [] c 103 (byte_judged 13 (λ _. BadLength) c 103 f (omega arith)))))
  length_judged came c m (RefusedInLength.eleventh_digit all e g) =
      length_digits came c 103 all (λ _ f. omega (arith, f, g.0))
      (digits_judged (of_length limit) came c 103 all (λ count n l p q. ⊎_elim (λ h. (BadLength, h, omega arith)) (λ h. (BadLength, h, omega arith)) (stops_full (of_length limit) count n c g (p ∙ e))))
  length_judged came c m (RefusedInLength.no_lf_behind_cr ds all e f) =
      subst (λ (z : List ℕ). IsJudged (count_at limit) z c 105) (sym e) (length_cr ds c all f)
  length_judged came c m (RefusedInLength.no_lf_behind_minus_one e f) =
      subst (λ (z : List ℕ). IsJudged (count_at limit) z c 105) (sym e)
      (behind_judged (count_at limit) c 105 _ (45 ∷ 49 ∷ 13 ∷ []) [] count_cr (then_judged (byte_at 10 (λ _. BadLineEnd)) null_count [] c 105 (byte_judged 10 (λ _. BadLineEnd) c 105 f (omega arith))))
  length_judged came c m (RefusedInLength.past_limit all g l) =
      length_digits came c 106 all (λ _ f. omega (arith, f, g.0))
      (digits_judged (of_length limit) came c 106 all (λ count n h p q. ⊎_elim (λ h. (BadLength, h, omega arith)) (λ h. (TooLong, h, omega arith)) (stops_over (of_length limit) count n c g (omega (arith, l, number_push 0 came c, q)))))

-- the line of an integer
module _ (greatest most : ℕ) where
  integer_stops : (sign ds : List ℕ) (c m count n : ℕ) → count ≡ length ds → n ≡ number_after 0 ds → length sign + most ≡ max_line → RefusedInInteger greatest sign ds c m → (w : Refusal) × (digits_at (of_integer greatest most) count n (c ∷ []) ≡ refused w (c ∷ [])) × (refusal_number w ≤ m)
  integer_stops sign ds c m count n p q r (RefusedInInteger.no_digit e f g) = (BadNumber, stops_bad (of_integer greatest most) count n c f e, omega arith)
  integer_stops sign ds c m count n p q r (RefusedInInteger.cr_behind_no_digit e f) =
      (BadNumber, subst (λ (z : ℕ). digits_at (of_integer greatest most) count n (z ∷ []) ≡ refused BadNumber (z ∷ [])) (sym f) (ap (λ z. digits_at (of_integer greatest most) z n (13 ∷ [])) (p ∙ ap length e) ∙ stops_empty (of_integer greatest most) n []), omega arith)
  integer_stops sign ds c m count n p q r (RefusedInInteger.out_of_range g l) =
      ⊎_elim (λ h. (BadNumber, h, omega arith)) (λ h. (BadNumber, h, omega arith)) (stops_over (of_integer greatest most) count n c g (omega (arith, l, number_push 0 ds c, q)))
  integer_stops sign ds c m count n p q r (RefusedInInteger.line_too_long e f) = by_digit (digit_or_not c)
    where
      digit_or_not : (c : ℕ) → IsDigit c ⊎ (IsDigit c → ⊥)
      digit_or_not c = elim (leb_tells 48 c) [ inl a ↦ elim (leb_tells c 57) [ inl b ↦ inl (a.1, b.1) | inr b ↦ inr (λ g. omega (arith, g.1, b.1)) ] | inr a ↦ inr (λ g. omega (arith, g.0, a.1)) ]

      by_digit : IsDigit c ⊎ (IsDigit c → ⊥) → (w : Refusal) × (digits_at (of_integer greatest most) count n (c ∷ []) ≡ refused w (c ∷ [])) × (refusal_number w ≤ 106)
      by_digit (inl g) = ⊎_elim (λ h. (BadNumber, h, omega arith)) (λ h. (TooLong, h, omega arith)) (stops_full (of_integer greatest most) count n c g (omega (arith, p, r, e, length-append sign ds)))
      by_digit (inr g) = (BadNumber, stops_bad (of_integer greatest most) count n c f g, omega arith)

plus_integer : (xs : List ℕ) → integer_at (43 ∷ xs) ≡ and_then (digits_at (of_integer (2 ^ 63 - 1) (max_line - 1)) 0 0 xs) (λ n rest. found (pos n) rest)
unfolding integer_at
plus_integer xs = refl

minus_integer : (xs : List ℕ) → integer_at (45 ∷ xs) ≡ and_then (digits_at (of_integer (2 ^ 63) (max_line - 1)) 0 0 xs) (λ n rest. found (neg_ℤ (pos n)) rest)
unfolding integer_at
minus_integer xs = refl

plain_integer : (x : ℕ) (xs : List ℕ) → x ≢ 43 → x ≢ 45 → integer_at (x ∷ xs) ≡ and_then (digits_at (of_integer (2 ^ 63 - 1) max_line) 0 0 (x ∷ xs)) (λ n rest. found (pos n) rest)
unfolding integer_at
plain_integer x xs e f = rw (ne_eqb x 43 e, ne_eqb x 45 f) refl

nil_integer : integer_at [] ≡ and_then (digits_at (of_integer (2 ^ 63 - 1) max_line) 0 0 []) (λ n rest. found (pos n) rest)
unfolding integer_at
nil_integer = refl

-- behind no sign
unsigned_judged : (ds : List ℕ) (c m : ℕ) → AllByRecursion IsDigit ds → (ds ≡ [] → (c ≢ 43) × (c ≢ 45)) → IsJudged (digits_at (of_integer (2 ^ 63 - 1) max_line) 0 0) ds c m → IsJudged integer_at ds c m
unsigned_judged [] c m all e h =
    other_judged integer_at c m (λ cs. and_then (digits_at (of_integer (2 ^ 63 - 1) max_line) 0 0 cs) (λ n rest. found (pos n) rest)) [] [] nil_integer (plain_integer c [] (e refl).0 (e refl).1)
    (then_judged (digits_at (of_integer (2 ^ 63 - 1) max_line) 0 0) (λ n rest. found (pos n) rest) [] c m h)
unsigned_judged (x ∷ ds) c m all e h =
    let no : (x ≢ 43) × (x ≢ 45) = ((λ f. omega (arith, all.0.0, f)), (λ f. omega (arith, all.0.0, f))) in
    other_judged integer_at c m (λ cs. and_then (digits_at (of_integer (2 ^ 63 - 1) max_line) 0 0 cs) (λ n rest. found (pos n) rest)) [] (x ∷ ds) (plain_integer x ds no.0 no.1) (plain_integer x (ds ++ c ∷ []) no.0 no.1)
    (then_judged (digits_at (of_integer (2 ^ 63 - 1) max_line) 0 0) (λ n rest. found (pos n) rest) (x ∷ ds) c m h)

unsigned_cr : (ds : List ℕ) (c : ℕ) → AllByRecursion IsDigit ds → c ≢ 10 → IsJudged integer_at (ds ++ 13 ∷ []) c 105
unsigned_cr [] c all e =
    let no : ((◌≢◌ {A = ℕ} 13 43) × (◌≢◌ {A = ℕ} 13 45)) = ((λ f. omega (arith, f)), (λ f. omega (arith, f))) in
    other_judged integer_at c 105 (λ cs. and_then (digits_at (of_integer (2 ^ 63 - 1) max_line) 0 0 cs) (λ n rest. found (pos n) rest)) [] (13 ∷ []) (plain_integer 13 [] no.0 no.1) (plain_integer 13 (c ∷ []) no.0 no.1)
    (then_judged (digits_at (of_integer (2 ^ 63 - 1) max_line) 0 0) (λ n rest. found (pos n) rest) (13 ∷ []) c 105 (digits_cr_judged (of_integer (2 ^ 63 - 1) max_line) [] c tt e))
unsigned_cr (x ∷ ds) c all e =
    let no : (x ≢ 43) × (x ≢ 45) = ((λ f. omega (arith, all.0.0, f)), (λ f. omega (arith, all.0.0, f))) in
    other_judged integer_at c 105 (λ cs. and_then (digits_at (of_integer (2 ^ 63 - 1) max_line) 0 0 cs) (λ n rest. found (pos n) rest)) [] (x ∷ ds ++ 13 ∷ []) (plain_integer x (ds ++ 13 ∷ []) no.0 no.1) (plain_integer x ((ds ++ 13 ∷ []) ++ c ∷ []) no.0 no.1)
    (then_judged (digits_at (of_integer (2 ^ 63 - 1) max_line) 0 0) (λ n rest. found (pos n) rest) (x ∷ ds ++ 13 ∷ []) c 105 (digits_cr_judged (of_integer (2 ^ 63 - 1) max_line) (x ∷ ds) c all e))

-- a byte that is refused behind no sign and no digit is no sign
no_sign : (greatest : ℕ) (ds : List ℕ) (c m : ℕ) → RefusedInInteger greatest [] ds c m → ds ≡ [] → (c ≢ 43) × (c ≢ 45)
no_sign greatest ds c m (RefusedInInteger.no_digit e f g) h = g h
no_sign greatest ds c m (RefusedInInteger.cr_behind_no_digit e f) h = ((λ g. omega (arith, f, g)), (λ g. omega (arith, f, g)))
no_sign greatest ds c m (RefusedInInteger.out_of_range g l) h = ((λ e. omega (arith, g.0, e)), (λ e. omega (arith, g.0, e)))
no_sign greatest ds c m (RefusedInInteger.line_too_long e f) h = absurd (omega (arith, e, ap length h))

integer_judged : (greatest : ℕ) (sign ds : List ℕ) (c m : ℕ) → IsSign sign greatest → AllByRecursion IsDigit ds → RefusedInInteger greatest sign ds c m → IsJudged integer_at (sign ++ ds) c m
integer_judged greatest sign ds c m (inl (inl e, f)) all r =
    let q : RefusedInInteger (2 ^ 63 - 1) [] ds c m = subst (λ (z : List ℕ). RefusedInInteger (2 ^ 63 - 1) z ds c m) e (subst (λ (z : ℕ). RefusedInInteger z sign ds c m) f r) in
    subst (λ (z : List ℕ). IsJudged integer_at (z ++ ds) c m) (sym e) (unsigned_judged ds c m all (no_sign (2 ^ 63 - 1) ds c m q)
    (digits_judged (of_integer (2 ^ 63 - 1) max_line) ds c m all (λ count n l p k. integer_stops (2 ^ 63 - 1) max_line [] ds c m count n p k (omega arith) q)))
integer_judged greatest sign ds c m (inl (inr e, f)) all r =
    let q : RefusedInInteger (2 ^ 63 - 1) (43 ∷ []) ds c m = subst (λ (z : List ℕ). RefusedInInteger (2 ^ 63 - 1) z ds c m) e (subst (λ (z : ℕ). RefusedInInteger z sign ds c m) f r) in
    subst (λ (z : List ℕ). IsJudged integer_at (z ++ ds) c m) (sym e) (behind_judged integer_at c m _ (43 ∷ []) ds plus_integer (then_judged (digits_at (of_integer (2 ^ 63 - 1) (max_line - 1)) 0 0) _ ds c m
    (digits_judged (of_integer (2 ^ 63 - 1) (max_line - 1)) ds c m all (λ count n l p k. integer_stops (2 ^ 63 - 1) (max_line - 1) (43 ∷ []) ds c m count n p k (omega arith) q))))
integer_judged greatest sign ds c m (inr (e, f)) all r =
    let q : RefusedInInteger (2 ^ 63) (45 ∷ []) ds c m = subst (λ (z : List ℕ). RefusedInInteger (2 ^ 63) z ds c m) e (subst (λ (z : ℕ). RefusedInInteger z sign ds c m) f r) in
    subst (λ (z : List ℕ). IsJudged integer_at (z ++ ds) c m) (sym e) (behind_judged integer_at c m _ (45 ∷ []) ds minus_integer (then_judged (digits_at (of_integer (2 ^ 63) (max_line - 1)) 0 0) _ ds c m
    (digits_judged (of_integer (2 ^ 63) (max_line - 1)) ds c m all (λ count n l p k. integer_stops (2 ^ 63) (max_line - 1) (45 ∷ []) ds c m count n p k (omega arith) q))))

integer_cr : (greatest : ℕ) (sign ds : List ℕ) (c : ℕ) → IsSign sign greatest → AllByRecursion IsDigit ds → c ≢ 10 → IsJudged integer_at ((sign ++ ds) ++ 13 ∷ []) c 105
integer_cr greatest sign ds c (inl (inl e, f)) all g =
    subst (λ (z : List ℕ). IsJudged integer_at ((z ++ ds) ++ 13 ∷ []) c 105) (sym e) (unsigned_cr ds c all g)
integer_cr greatest sign ds c (inl (inr e, f)) all g =
    subst (λ (z : List ℕ). IsJudged integer_at ((z ++ ds) ++ 13 ∷ []) c 105) (sym e) (behind_judged integer_at c 105 _ (43 ∷ []) (ds ++ 13 ∷ []) plus_integer
    (then_judged (digits_at (of_integer (2 ^ 63 - 1) (max_line - 1)) 0 0) _ (ds ++ 13 ∷ []) c 105 (digits_cr_judged (of_integer (2 ^ 63 - 1) (max_line - 1)) ds c all g)))
integer_cr greatest sign ds c (inr (e, f)) all g =
    subst (λ (z : List ℕ). IsJudged integer_at ((z ++ ds) ++ 13 ∷ []) c 105) (sym e) (behind_judged integer_at c 105 _ (45 ∷ []) (ds ++ 13 ∷ []) minus_integer
    (then_judged (digits_at (of_integer (2 ^ 63) (max_line - 1)) 0 0) _ (ds ++ 13 ∷ []) c 105 (digits_cr_judged (of_integer (2 ^ 63) (max_line - 1)) ds c all g)))

-- the line of a simple string or an error
data LinePassed (seen bs : List ℕ) : Type 0 where
  passes : ((xs : List ℕ) → text_at seen (bs ++ xs) ≡ text_at (seen ++ bs) xs) → LinePassed seen bs
  stopped : (w : Refusal) (rest : List ℕ) → ((xs : List ℕ) → text_at seen (bs ++ xs) ≡ refused w (rest ++ xs)) → LinePassed seen bs

line_passed : (seen bs : List ℕ) → length seen ≤ max_line → AllByRecursion IsLineByte bs → LinePassed seen bs
line_passed seen [] h all = passes (λ xs. ap (λ z. text_at z xs) (sym (append-nil seen)))
line_passed seen (c ∷ bs) h all =
    elim (text_step seen c h) [
      | stops r p ↦ stopped r (c ∷ bs) (λ xs. p (bs ++ xs))
      | ends c_is p ↦ absurd (all.0.0 c_is)
      | goes t few p ↦
          elim (line_passed (seen ++ c ∷ []) bs (omega (arith, length-append seen (c ∷ []))) all.1) [
            | passes q ↦ passes (λ xs. p (bs ++ xs) ∙ q xs ∙ ap (λ z. text_at z xs) (append_assoc seen (c ∷ []) bs))
            | stopped w rest q ↦ stopped w rest (λ xs. p (bs ++ xs) ∙ q xs)
          ]
    ]

stops_line_feed : (seen : List ℕ) → text_at seen (10 ∷ []) ≡ refused BadLineEnd (10 ∷ [])
unfolding text_at
stops_line_feed seen = refl

stops_long : (seen : List ℕ) (c : ℕ) → c ≢ 13 → length seen ≡ max_line → (w : Refusal) × (text_at seen (c ∷ []) ≡ refused w (c ∷ [])) × (refusal_number w ≤ 106)
unfolding text_at
stops_long seen c e f =
    elim (cases_Bool (eqb c 10)) [
      | inl g ↦ (BadLineEnd, (rw (ne_eqb c 13 e, g) refl), omega arith)
      | inr g ↦ (TooLong, (rw (ne_eqb c 13 e, g, eq-eqb (length seen) max_line f) refl), omega arith)
    ]

line_stops : (seen : List ℕ) (c m : ℕ) → RefusedInLine seen c m → (w : Refusal) × (text_at seen (c ∷ []) ≡ refused w (c ∷ [])) × (refusal_number w ≤ m)
line_stops seen c m (RefusedInLine.lf_behind_no_cr e) =
    (BadLineEnd, subst (λ (z : ℕ). text_at seen (z ∷ []) ≡ refused BadLineEnd (z ∷ [])) (sym e) (stops_line_feed seen), omega arith)
line_stops seen c m (RefusedInLine.line_too_long e f) = stops_long seen c f e

line_judged : (bs : List ℕ) (c m : ℕ) → AllByRecursion IsLineByte bs → RefusedInLine bs c m → IsJudged (text_at []) bs c m
line_judged bs c m all r =
    elim (line_passed [] bs (omega arith) all) [
      | passes q ↦
          let (w, fails, least) = line_stops bs c m r in
          begun_judged (text_at []) c m bs w (ap (text_at []) (sym (append-nil bs)) ∙ q [] ∙ text_at_nil bs) (q (c ∷ []) ∙ fails) least
      | stopped w rest q ↦ refused_judged (text_at []) c m bs (rest ++ []) w (ap (text_at []) (sym (append-nil bs)) ∙ q [])
    ]

line_cr : (bs : List ℕ) (c : ℕ) → AllByRecursion IsLineByte bs → c ≢ 10 → IsJudged (text_at []) (bs ++ 13 ∷ []) c 105
line_cr bs c all e =
    elim (line_passed [] bs (omega arith) all) [
      | passes q ↦
          begun_judged (text_at []) c 105 (bs ++ 13 ∷ []) BadLineEnd (q (13 ∷ []) ∙ text_13 bs [] ∙ ap (λ o. and_then o (λ u rest. found bs rest)) (byte_at_nil 10 (λ _. BadLineEnd)))
          (ap (text_at []) (append_assoc bs (13 ∷ []) (c ∷ [])) ∙ q (13 ∷ c ∷ []) ∙ text_13 bs (c ∷ []) ∙ ap (λ o. and_then o (λ u rest. found bs rest)) (byte_at_other 10 (λ _. BadLineEnd) c [] (ne_eqb c 10 e))) (omega arith)
      | stopped w rest q ↦ refused_judged (text_at []) c 105 (bs ++ 13 ∷ []) (rest ++ 13 ∷ []) w (q (13 ∷ []))
    ]

-- a value that is no array
bulk_leaf : (xs : List ℕ) → leaf_at (36 ∷ xs) ≡ and_then (count_at max_bulk xs) payload_at
unfolding leaf_at bulk_at
bulk_leaf xs = refl

simple_leaf : (xs : List ℕ) → leaf_at (43 ∷ xs) ≡ and_then (text_at [] xs) (λ s rest. found (simple s) rest)
unfolding leaf_at
simple_leaf xs = refl

fault_leaf : (xs : List ℕ) → leaf_at (45 ∷ xs) ≡ and_then (text_at [] xs) (λ s rest. found (fault s) rest)
unfolding leaf_at
fault_leaf xs = refl

integer_leaf : (xs : List ℕ) → leaf_at (58 ∷ xs) ≡ and_then (integer_at xs) (λ n rest. found (whole n) rest)
unfolding leaf_at byte_at
integer_leaf xs = refl

type_leaf : (c : ℕ) → c ≢ 43 → c ≢ 45 → c ≢ 58 → c ≢ 36 → c ≢ 42 → leaf_at (c ∷ []) ≡ refused BadType (c ∷ [])
unfolding leaf_at byte_at
type_leaf c e f g h k = rw (ne_eqb c 36 h, ne_eqb c 43 e, ne_eqb c 45 f, ne_eqb c 58 g, ne_eqb c 42 k) refl

nil_leaf : leaf_at [] ≡ unfinished
unfolding leaf_at byte_at
nil_leaf = refl

-- behind the bytes of a bulk
bulk_found : (digits s xs : List ℕ) → IsLength max_bulk digits (length s) → leaf_at ((line 36 digits ++ s) ++ xs) ≡ and_then (end_at xs) (λ _ rest. found (bulk s) rest)
unfolding payload_at
bulk_found digits s xs g =
    bulk_leaf (((digits ++ line_end) ++ s) ++ xs)
    ∙ ap (λ z. and_then (count_at max_bulk z) payload_at) (append_assoc (digits ++ line_end) s xs)
    ∙ ap (λ o. and_then o payload_at) ((count-reads max_bulk).again (digits ++ line_end) (s ++ xs) (Some (length s)) (inr (length s, (digits, g, refl), refl)))
    ∙ ap (λ o. and_then o (λ s rest. and_then (end_at rest) (λ _ rest. found (bulk s) rest))) ((bytes-reads (length s)).again s xs s (refl, refl))

end_first : (c : ℕ) → c ≢ 13 → end_at (c ∷ []) ≡ refused BadLineEnd (c ∷ [])
unfolding end_at
end_first c e = ap (λ o. and_then o (λ _ rest. byte_at 10 (λ _. BadLineEnd) rest)) (byte_at_other 13 (λ _. BadLineEnd) c [] (ne_eqb c 13 e))

end_nil : end_at [] ≡ unfinished
unfolding end_at byte_at
end_nil = refl

end_cr : (xs : List ℕ) → end_at (13 ∷ xs) ≡ byte_at 10 (λ _. BadLineEnd) xs
unfolding end_at byte_at
end_cr xs = refl

bulk_no_cr : (digits s : List ℕ) (c : ℕ) → IsLength max_bulk digits (length s) → c ≢ 13 → IsJudged leaf_at (line 36 digits ++ s) c 105
bulk_no_cr digits s c g e =
    begun_judged leaf_at c 105 (line 36 digits ++ s) BadLineEnd (ap leaf_at (sym (append-nil (line 36 digits ++ s))) ∙ bulk_found digits s [] g ∙ ap (λ o. and_then o (λ _ rest. found (bulk s) rest)) end_nil)
    (bulk_found digits s (c ∷ []) g ∙ ap (λ o. and_then o (λ _ rest. found (bulk s) rest)) (end_first c e)) (omega arith)

bulk_no_lf : (digits s : List ℕ) (c : ℕ) → IsLength max_bulk digits (length s) → c ≢ 10 → IsJudged leaf_at (line 36 digits ++ s ++ 13 ∷ []) c 105
bulk_no_lf digits s c g e =
    begun_judged leaf_at c 105 (line 36 digits ++ s ++ 13 ∷ []) BadLineEnd (bulk_found digits s (13 ∷ []) g ∙ ap (λ o. and_then o (λ _ rest. found (bulk s) rest)) (end_cr [] ∙ byte_at_nil 10 (λ _. BadLineEnd)))
    (ap leaf_at (append_assoc (line 36 digits ++ s) (13 ∷ []) (c ∷ [])) ∙ bulk_found digits s (13 ∷ c ∷ []) g ∙ ap (λ o. and_then o (λ _ rest. found (bulk s) rest)) (end_cr (c ∷ []) ∙ byte_at_other 10 (λ _. BadLineEnd) c [] (ne_eqb c 10 e))) (omega arith)

leaf_line : (kind : ℕ) (bs : List ℕ) (c m : ℕ) → (kind ≡ 43) ⊎ (kind ≡ 45) → IsJudged (text_at []) bs c m → IsJudged leaf_at (kind ∷ bs) c m
leaf_line kind bs c m (inl e) h =
    subst (λ (z : ℕ). IsJudged leaf_at (z ∷ bs) c m) (sym e) (behind_judged leaf_at c m _ (43 ∷ []) bs simple_leaf (then_judged (text_at []) (λ s rest. found (simple s) rest) bs c m h))
leaf_line kind bs c m (inr e) h =
    subst (λ (z : ℕ). IsJudged leaf_at (z ∷ bs) c m) (sym e) (behind_judged leaf_at c m _ (45 ∷ []) bs fault_leaf (then_judged (text_at []) (λ s rest. found (fault s) rest) bs c m h))

leaf_integer : (bs : List ℕ) (c m : ℕ) → IsJudged integer_at bs c m → IsJudged leaf_at (58 ∷ bs) c m
leaf_integer bs c m h = behind_judged leaf_at c m _ (58 ∷ []) bs integer_leaf (then_judged integer_at (λ n rest. found (whole n) rest) bs c m h)

leaf_judged : (came : List ℕ) (c m : ℕ) → RefusedInLeaf came c m → IsJudged leaf_at came c m
leaf_judged came c m (RefusedInLeaf.no_type e f g h k l) =
    subst (λ (z : List ℕ). IsJudged leaf_at z c 102) (sym e) (begun_judged leaf_at c 102 [] BadType nil_leaf (type_leaf c f g h k l) (omega arith))
leaf_judged came c m (RefusedInLeaf.in_length part e r) =
    subst (λ (z : List ℕ). IsJudged leaf_at z c m) (sym e) (behind_judged leaf_at c m _ (36 ∷ []) part bulk_leaf (then_judged (count_at max_bulk) payload_at part c m (length_judged max_bulk part c m r)))
leaf_judged came c m (RefusedInLeaf.no_cr_behind_bulk digits s g e f) =
    subst (λ (z : List ℕ). IsJudged leaf_at z c 105) (sym e) (bulk_no_cr digits s c g f)
leaf_judged came c m (RefusedInLeaf.no_lf_behind_bulk digits s g e f) =
    subst (λ (z : List ℕ). IsJudged leaf_at z c 105) (sym e) (bulk_no_lf digits s c g f)
leaf_judged came c m (RefusedInLeaf.in_integer greatest sign digits g all e r) =
    subst (λ (z : List ℕ). IsJudged leaf_at z c m) (sym e) (leaf_integer (sign ++ digits) c m (integer_judged greatest sign digits c m g all r))
leaf_judged came c m (RefusedInLeaf.no_lf_behind_integer greatest sign digits g all e f) =
    subst (λ (z : List ℕ). IsJudged leaf_at z c 105) (sym e) (leaf_integer ((sign ++ digits) ++ 13 ∷ []) c 105 (integer_cr greatest sign digits c g all f))
leaf_judged came c m (RefusedInLeaf.in_line kind part k all e r) =
    subst (λ (z : List ℕ). IsJudged leaf_at z c m) (sym e) (leaf_line kind part c m k (line_judged part c m all r))
leaf_judged came c m (RefusedInLeaf.no_lf_behind_line kind part k all e f) =
    subst (λ (z : List ℕ). IsJudged leaf_at z c 105) (sym e) (leaf_line kind (part ++ 13 ∷ []) c 105 k (line_cr part c all f))

-- so it is where no array may stand, and where one may
zero_value : (xs : List ℕ) (most : ℕ) → value_at most zero xs ≡ leaf_at xs
unfolding value_at
zero_value xs most = refl

leaf_value : (most left x : ℕ) (xs : List ℕ) → x ≢ 42 → value_at most (suc left) (x ∷ xs) ≡ leaf_at (x ∷ xs)
unfolding value_at
leaf_value most left x xs e = rw (ne_eqb x 42 e) refl

nil_value : (most left : ℕ) → value_at most (suc left) [] ≡ leaf_at []
unfolding value_at
nil_value most left = refl

ninth_value : (most : ℕ) → value_at most zero (42 ∷ []) ≡ refused TooDeep (42 ∷ [])
unfolding value_at leaf_at byte_at
ninth_value most = refl

array_value : (most left : ℕ) (xs : List ℕ) → value_at most (suc left) (42 ∷ xs) ≡ and_then (count_at most xs) (members_at (value_at most left))
unfolding value_at list_at
array_value most left xs = refl

-- the first byte of a value that is no array, with the refused one behind it
data FirstIs (came : List ℕ) (c : ℕ) : Type 0 where
  of_none : came ≡ [] → c ≢ 42 → FirstIs came c
  of_some : (x : ℕ) (xs : List ℕ) → came ≡ x ∷ xs → x ≢ 42 → FirstIs came c

leaf_first : (came : List ℕ) (c m : ℕ) → RefusedInLeaf came c m → FirstIs came c
leaf_first came c m (RefusedInLeaf.no_type e f g h k l) = of_none e l
leaf_first came c m (RefusedInLeaf.in_length part e r) = of_some 36 part e (λ f. omega (arith, f))
leaf_first came c m (RefusedInLeaf.no_cr_behind_bulk digits s g e f) = of_some 36 ((digits ++ line_end) ++ s) e (λ f. omega (arith, f))
leaf_first came c m (RefusedInLeaf.no_lf_behind_bulk digits s g e f) = of_some 36 (((digits ++ line_end) ++ s) ++ 13 ∷ []) e (λ f. omega (arith, f))
leaf_first came c m (RefusedInLeaf.in_integer greatest sign digits g all e r) = of_some 58 (sign ++ digits) e (λ f. omega (arith, f))
leaf_first came c m (RefusedInLeaf.no_lf_behind_integer greatest sign digits g all e f) = of_some 58 ((sign ++ digits) ++ 13 ∷ []) e (λ f. omega (arith, f))
leaf_first came c m (RefusedInLeaf.in_line kind part k all e r) = of_some kind part e (λ f. ⊎_elim (λ g. omega (arith, f, g)) (λ g. omega (arith, f, g)) k)
leaf_first came c m (RefusedInLeaf.no_lf_behind_line kind part k all e g) = of_some kind (part ++ 13 ∷ []) e (λ f. ⊎_elim (λ g. omega (arith, f, g)) (λ g. omega (arith, f, g)) k)

leaf_in_value : (most left : ℕ) (came : List ℕ) (c m : ℕ) → FirstIs came c → IsJudged leaf_at came c m → IsJudged (value_at most (suc left)) came c m
leaf_in_value most left came c m (of_none e f) h =
    subst (λ (z : List ℕ). IsJudged (value_at most (suc left)) z c m) (sym e) (other_judged (value_at most (suc left)) c m leaf_at [] [] (nil_value most left) (leaf_value most left c [] f) (subst (λ (z : List ℕ). IsJudged leaf_at z c m) e h))
leaf_in_value most left came c m (of_some x xs e f) h =
    subst (λ (z : List ℕ). IsJudged (value_at most (suc left)) z c m) (sym e) (other_judged (value_at most (suc left)) c m leaf_at [] (x ∷ xs) (leaf_value most left x xs f) (leaf_value most left x (xs ++ c ∷ []) f) (subst (λ (z : List ℕ). IsJudged leaf_at z c m) e h))

-- in a member, behind whole ones
many_some : (most left n : ℕ) (b : List ℕ) → many_at (value_at most left) (suc n) b ≡ and_then (value_at most left b) (λ a rest. and_then (many_at (value_at most left) n rest) (λ others rest. found (a ∷ others) rest))
unfolding many_at
many_some most left n b = refl

many_judged : (most left n : ℕ) (front part : List ℕ) (ts : Trees) (c m : ℕ) → AreTexts most left front ts → length (members ts) < n → IsJudged (value_at most left) part c m → IsJudged (many_at (value_at most left) n) (front ++ part) c m
many_judged most left zero front part ts c m g l h = absurd (omega (arith, l))
many_judged most left (suc n) front part no_trees c m g l h =
    subst (λ (z : List ℕ). IsJudged (many_at (value_at most left) (suc n)) (z ++ part) c m) (sym g)
    (behind_judged (many_at (value_at most left) (suc n)) c m _ [] part (many_some most left n) (then_judged (value_at most left) (λ a rest. and_then (many_at (value_at most left) n rest) (λ others rest. found (a ∷ others) rest)) part c m h))
many_judged most left (suc n) front part (tree t ts) c m (x, y, split, text, others) l h =
    subst (λ (z : List ℕ). IsJudged (many_at (value_at most left) (suc n)) z c m) (sym (ap (λ z. z ++ part) split ∙ append_assoc x y part))
    (behind_judged (many_at (value_at most left) (suc n)) c m (λ rest. and_then (many_at (value_at most left) n rest) (λ others rest. found (t ∷ others) rest)) x (y ++ part)
    (λ xs. many_some most left n (x ++ xs) ∙ ap (λ o. and_then o (λ a rest. and_then (many_at (value_at most left) n rest) (λ others rest. found (a ∷ others) rest))) ((value-reads most left).again x xs t text))
    (then_judged (many_at (value_at most left) n) (λ others rest. found (t ∷ others) rest) (y ++ part) c m (many_judged most left n y part ts c m others (omega (arith, l)) h)))

members_of : (most left n : ℕ) (digits xs : List ℕ) → IsLength most digits n → value_at most (suc left) (line 42 digits ++ xs) ≡ and_then (many_at (value_at most left) n xs) (λ ts rest. found (list (trees_of ts)) rest)
unfolding members_at
members_of most left n digits xs g =
    array_value most left ((digits ++ line_end) ++ xs) ∙ ap (λ o. and_then o (members_at (value_at most left))) ((count-reads most).again (digits ++ line_end) xs (Some n) (inr (n, (digits, g, refl), refl)))

pub value_judged : (most left : ℕ) (came : List ℕ) (c m : ℕ) → RefusedInValue most left came c m → IsJudged (value_at most left) came c m
value_judged most zero came c m (inl r) = other_judged (value_at most zero) c m leaf_at [] came (zero_value came most) (zero_value (came ++ c ∷ []) most) (leaf_judged came c m r)
value_judged most zero came c m (inr (e, f, g)) =
    subst (λ (z : List ℕ). IsJudged (value_at most zero) z c m) (sym e)
    (begun_judged (value_at most zero) c m [] TooDeep (zero_value [] most ∙ nil_leaf) (subst (λ (z : ℕ). value_at most zero (z ∷ []) ≡ refused TooDeep (z ∷ [])) (sym f) (ninth_value most)) (omega (arith, g)))
value_judged most (suc left) came c m (inl r) = leaf_in_value most left came c m (leaf_first came c m r) (leaf_judged came c m r)
value_judged most (suc left) came c m (inr (inl (part, e, r))) =
    subst (λ (z : List ℕ). IsJudged (value_at most (suc left)) z c m) (sym e)
    (behind_judged (value_at most (suc left)) c m _ (42 ∷ []) part (array_value most left) (then_judged (count_at most) (members_at (value_at most left)) part c m (length_judged most part c m r)))
value_judged most (suc left) came c m (inr (inr (digits, front, part, n, ts, g, h, l, e, r))) =
    subst (λ (z : List ℕ). IsJudged (value_at most (suc left)) z c m) (sym (e ∙ append_assoc (line 42 digits) front part))
    (behind_judged (value_at most (suc left)) c m _ (line 42 digits) (front ++ part) (λ xs. members_of most left n digits xs g)
    (then_judged (many_at (value_at most left) n) (λ ts rest. found (list (trees_of ts)) rest) (front ++ part) c m (many_judged most left n front part ts c m h l (value_judged most left part c m r))))

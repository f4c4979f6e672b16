-- Reading refuses a byte by no number above one that fits its place.
use Rattle.std.proofs.Common.{◌≡◌, ◌≢◌, ◌⊎◌, inl, inr, ◌&&◌, ℕ, ◌+◌, ◌-◌, ◌*◌, ◌<◌, ◌≤◌, true, false, eqb, leb, ltb, List, [], ◌∷◌, ◌++◌, length, refl, sym, ap, ◌∙◌, subst, append_assoc, append-nil, arith, leb-true, ne_eqb, eq-eqb, le-leb, lt-ltb}
use Rattle.std.specs.List.{AllByRecursion}
use Rattle.std.proofs.lemmas.Bool.{cases_Bool, and_parts}
use Rattle.resp_core.specs.declared.error.Refusal.{Refusal}
use Rattle.resp_core.specs.declared.error.Refusal.TheVariants.{BadLineEnd}
use Rattle.resp_core.specs.declared.digits.Digits.{Digits}
use Rattle.resp_core.specs.Offset.{refusal_number}
use Rattle.resp_core.specs.Grammar.{IsDigit, number_after}
use Rattle.resp_core.specs.Reading.{Outcome, found, unfinished, refused, and_then, byte_at, digits_at}
use Rattle.resp_core.proofs.reading.PartLemmas.{byte_at_other, byte_at_nil, stops, ends, goes, digit_step, digits_at_nil}

-- what reading gives at bytes behind which another byte is told by this number or a lower one
abbrev pub Judged : {A : Type 0} → (List ℕ → Outcome A) → List ℕ → ℕ → ℕ → Outcome A → Type 0
Judged read came c m (found a rest) = ⊥
Judged read came c m unfinished = (w : Refusal) × (read (came ++ c ∷ []) ≡ refused w (c ∷ [])) × (refusal_number w ≤ m)
Judged read came c m (refused w rest) = Unit {0}

-- reading these bytes is judged so
abbrev pub IsJudged : {A : Type 0} → (List ℕ → Outcome A) → List ℕ → ℕ → ℕ → Type 0
IsJudged read came c m = Judged read came c m (read came)

module _ {A : Type 0} (read : List ℕ → Outcome A) (c m : ℕ) where
  pub refused_judged : (came rest : List ℕ) (w : Refusal) → read came ≡ refused w rest → IsJudged read came c m
  refused_judged came rest w e = subst (λ (o : Outcome A). Judged read came c m o) (sym e) tt

  pub begun_judged : (came : List ℕ) (w : Refusal) → read came ≡ unfinished → read (came ++ c ∷ []) ≡ refused w (c ∷ []) → refusal_number w ≤ m → IsJudged read came c m
  begun_judged came w e f l = subst (λ (o : Outcome A). Judged read came c m o) (sym e) (w, f, l)

  -- where another reader goes on
  pub other_judged : (other : List ℕ → Outcome A) (front came : List ℕ) → read (front ++ came) ≡ other came → read (front ++ came ++ c ∷ []) ≡ other (came ++ c ∷ []) → IsJudged other came c m → IsJudged read (front ++ came) c m
  other_judged other front came e f h = subst (λ (o : Outcome A). Judged read (front ++ came) c m o) (sym e) (by (other came) h)
    where
      by : (o : Outcome A) → Judged other came c m o → Judged read (front ++ came) c m o
      by (found a rest) h = h
      by unfinished (w, fails, least) = (w, f ∙ fails, least)
      by (refused w rest) h = tt

  pub behind_judged : (behind : List ℕ → Outcome A) (front came : List ℕ) → ((xs : List ℕ) → read (front ++ xs) ≡ behind xs) → IsJudged behind came c m → IsJudged read (front ++ came) c m
  behind_judged behind front came p h = other_judged behind front came (p came) (ap read (append_assoc front came (c ∷ [])) ∙ p (came ++ c ∷ [])) h

-- the first of two parts
pub then_judged : {A B : Type 0} (read : List ℕ → Outcome A) (s : A → List ℕ → Outcome B) (came : List ℕ) (c m : ℕ) → IsJudged read came c m → IsJudged (λ b. and_then (read b) s) came c m
then_judged read s came c m h = by (read came) h
  where
    by : (o : Outcome _) → Judged read came c m o → Judged (λ b. and_then (read b) s) came c m (and_then o s)
    by (found a rest) h = absurd h
    by unfinished (w, fails, least) = (w, ap (λ o. and_then o s) fails, least)
    by (refused w rest) h = tt

-- the bytes that are due
pub byte_judged : (k : ℕ) (r : ℕ → Refusal) (c m : ℕ) → c ≢ k → refusal_number (r c) ≤ m → IsJudged (byte_at k r) [] c m
byte_judged k r c m e l = begun_judged (byte_at k r) c m [] (r c) (byte_at_nil k r) (byte_at_other k r c [] (ne_eqb c k e)) l

-- digits are read to their end, or refused
data Passed (d : Digits) (count n : ℕ) (ds : List ℕ) : Type 0 where
  passes : count + length ds ≤ d.most → ((xs : List ℕ) → digits_at d count n (ds ++ xs) ≡ digits_at d (count + length ds) (number_after n ds) xs) → Passed d count n ds
  stopped : (w : Refusal) (rest : List ℕ) → ((xs : List ℕ) → digits_at d count n (ds ++ xs) ≡ refused w (rest ++ xs)) → Passed d count n ds

passed : (d : Digits) (count n : ℕ) (ds : List ℕ) → count ≤ d.most → AllByRecursion IsDigit ds → Passed d count n ds
passed d count n [] h all = passes (omega arith) (λ xs. ap (λ z. digits_at d z n xs) (omega arith))
passed d count n (c ∷ ds) h all =
    elim (digit_step d count n c h) [
      | stops r p ↦ stopped r (c ∷ ds) (λ xs. p (ds ++ xs))
      | ends c_is some p ↦ absurd (omega (arith, c_is, all.0.0))
      | goes g few within p ↦
          elim (passed d (count + 1) (n * 10 + (c - 48)) ds (omega arith) all.1) [
            | passes l q ↦ passes (omega (arith, l)) (λ xs. p (ds ++ xs) ∙ q xs ∙ ap (λ z. digits_at d z (number_after (n * 10 + (c - 48)) ds) xs) (omega arith))
            | stopped w rest q ↦ stopped w rest (λ xs. p (ds ++ xs) ∙ q xs)
          ]
    ]

-- a byte behind all digits
pub digits_judged : (d : Digits) (ds : List ℕ) (c m : ℕ) → AllByRecursion IsDigit ds → ((count n : ℕ) → count ≤ d.most → count ≡ length ds → n ≡ number_after 0 ds → (w : Refusal) × (digits_at d count n (c ∷ []) ≡ refused w (c ∷ [])) × (refusal_number w ≤ m)) → IsJudged (digits_at d 0 0) ds c m
digits_judged d ds c m all f =
    elim (passed d 0 0 ds (omega arith) all) [
      | passes l q ↦
          let (w, fails, least) = f (0 + length ds) (number_after 0 ds) l (omega arith) refl in
          begun_judged (digits_at d 0 0) c m ds w (ap (digits_at d 0 0) (sym (append-nil ds)) ∙ q [] ∙ digits_at_nil d _ _) (q (c ∷ []) ∙ fails) least
      | stopped w rest q ↦ refused_judged (digits_at d 0 0) c m ds (rest ++ []) w (ap (digits_at d 0 0) (sym (append-nil ds)) ∙ q [])
    ]

-- a byte behind digits and a CR
pub digits_cr_judged : (d : Digits) (ds : List ℕ) (c : ℕ) → AllByRecursion IsDigit ds → c ≢ 10 → IsJudged (digits_at d 0 0) (ds ++ 13 ∷ []) c 105
digits_cr_judged d ds c all e =
    elim (passed d 0 0 ds (omega arith) all) [
      | passes l q ↦
          elim (digit_step d (0 + length ds) (number_after 0 ds) 13 l) [
            | stops r p ↦ refused_judged (digits_at d 0 0) c 105 (ds ++ 13 ∷ []) _ r (q (13 ∷ []) ∙ p [])
            | ends c_is some p ↦
                begun_judged (digits_at d 0 0) c 105 (ds ++ 13 ∷ []) BadLineEnd (q (13 ∷ []) ∙ p [] ∙ ap (λ o. and_then o (λ u rest. found (number_after 0 ds) rest)) (byte_at_nil 10 (λ _. BadLineEnd)))
                (ap (digits_at d 0 0) (append_assoc ds (13 ∷ []) (c ∷ [])) ∙ q (13 ∷ c ∷ []) ∙ p (c ∷ []) ∙ ap (λ o. and_then o (λ u rest. found (number_after 0 ds) rest)) (byte_at_other 10 (λ _. BadLineEnd) c [] (ne_eqb c 10 e))) (omega arith)
            | goes g few within p ↦ absurd (omega (arith, g.0))
          ]
      | stopped w rest q ↦ refused_judged (digits_at d 0 0) c 105 (ds ++ 13 ∷ []) (rest ++ 13 ∷ []) w (q (13 ∷ []))
    ]

module _ (d : Digits) (count n c : ℕ) where
  digit_tests : IsDigit c → (eqb c 13 ≡ false) × ((leb 48 c && leb c 57) ≡ true)
  digit_tests g = (ne_eqb c 13 (λ e. omega (arith, g.0, e)), (rw (le-leb 48 c g.0, le-leb c 57 g.1) refl))

  pub stops_bad : c ≢ 13 → (IsDigit c → ⊥) → digits_at d count n (c ∷ []) ≡ refused d.bad (c ∷ [])
  unfolding digits_at
  stops_bad e f =
      elim (cases_Bool (leb 48 c && leb c 57)) [
        | inl g ↦ let p = and_parts (leb 48 c) (leb c 57) g in absurd (f (leb-true 48 c p.0, leb-true c 57 p.1))
        | inr g ↦ rw (ne_eqb c 13 e, g) refl
      ]

  pub stops_full : IsDigit c → count ≡ d.most → (digits_at d count n (c ∷ []) ≡ refused d.both (c ∷ [])) ⊎ (digits_at d count n (c ∷ []) ≡ refused d.full (c ∷ []))
  unfolding digits_at
  stops_full g e =
      let t = digit_tests g in
      let f : eqb count d.most ≡ true = eq-eqb count d.most e in
      elim (cases_Bool (ltb d.limit (n * 10 + (c - 48)))) [
        | inl k ↦ inl (rw (t.0, t.1, f, k) refl)
        | inr k ↦ inr (rw (t.0, t.1, f, k) refl)
      ]

  pub stops_over : IsDigit c → d.limit < n * 10 + (c - 48) → (digits_at d count n (c ∷ []) ≡ refused d.both (c ∷ [])) ⊎ (digits_at d count n (c ∷ []) ≡ refused d.over (c ∷ []))
  unfolding digits_at
  stops_over g l =
      let t = digit_tests g in
      let k : ltb d.limit (n * 10 + (c - 48)) ≡ true = lt-ltb d.limit (n * 10 + (c - 48)) l in
      elim (cases_Bool (eqb count d.most)) [
        | inl f ↦ inl (rw (t.0, t.1, f, k) refl)
        | inr f ↦ inr (rw (t.0, t.1, f, k) refl)
      ]

pub stops_empty : (d : Digits) (n : ℕ) (xs : List ℕ) → digits_at d 0 n (13 ∷ xs) ≡ refused d.bad (13 ∷ xs)
unfolding digits_at
stops_empty d n xs = refl

-- The number by which reading refuses a byte of a value fits its place.
use Rattle.std.proofs.Common.{◌≡◌, ◌≢◌, ◌⊎◌, inl, inr, ⊎_elim, ◌^◌, ℕ, zero, suc, ◌+◌, ◌-◌, List, [], ◌∷◌, ◌++◌, length, Option, Some, None, refl, sym, ap, ◌∙◌, subst, append_assoc, append-nil, eqb, arith, eqb-true}
use Rattle.std.specs.List.{AllByRecursion}
use Rattle.std.proofs.lemmas.Bool.{cases_Bool, eqb-false}
use Rattle.std.proofs.lemmas.List.{length-append}
use Rattle.resp_core.specs.declared.error.Refusal.{Refusal}
use Rattle.resp_core.specs.declared.error.Refusal.TheVariants.{BadType, BadLineEnd, TooDeep}
use Rattle.resp_core.specs.Offset.{refusal_number}
use Rattle.resp_core.specs.Tree.{Tree, Trees, no_trees, tree, members}
use Rattle.resp_core.specs.Text.{line, line_end}
use Rattle.resp_core.specs.Grammar.{IsDigit, IsLength, IsText, AreTexts, max_line, max_bulk}
use Rattle.resp_core.specs.Refusals.{IsSign, RefusedInLength, RefusedInInteger, RefusedInLine, RefusedInLeaf, RefusedInValue}
use Rattle.resp_core.specs.Reading.{of_length, of_integer}
use Rattle.resp_core.proofs.reading.GrammarReaderLemmas.{ThenPlace}
use Rattle.resp_core.proofs.reading.RefusedPlaces.{ByteIs, InDigits, other, empty, both, full, over, InNumber, line_feed, too_long, InLine}
use Rattle.resp_core.proofs.reading.PartLemmas.{IsByte}
use Rattle.resp_core.proofs.reading.WholeValueLemmas.{InCount, IsCountOf, InPayload, InInteger, InLeaf, InMany, InMembers, InValue}

-- in a length
fits_digits : (limit : ℕ) (came : List ℕ) (c : ℕ) (w : Refusal) → AllByRecursion IsDigit came → (came ≡ [] → c ≢ 45) → InDigits (of_length limit) came c w → RefusedInLength limit came c (refusal_number w)
fits_digits limit came c w all e (other f g) = RefusedInLength.no_digit all f g e
fits_digits limit came c w all e (empty f g) = RefusedInLength.cr_behind_no_digit g f
fits_digits limit came c w all e (both f g h) = RefusedInLength.eleventh_digit all g f
fits_digits limit came c w all e (full f g h) = RefusedInLength.eleventh_digit all g f
fits_digits limit came c w all e (over f g h) = RefusedInLength.past_limit all f h

fits_length : (limit : ℕ) (came : List ℕ) (c : ℕ) (w : Refusal) → InCount limit came c w → RefusedInLength limit came c (refusal_number w)
fits_length limit came c w (inl (z, e, inl (f, g, h))) =
    subst (λ (v : Refusal). RefusedInLength limit came c (refusal_number v)) (sym h) (RefusedInLength.no_one_behind_minus (e ∙ ap (λ y. 45 ∷ y) f) g)
fits_length limit came c w (inl (z, e, inr (u, x, y, f, g, inl (h, k, l)))) =
    subst (λ (v : Refusal). RefusedInLength limit came c (refusal_number v)) (sym l) (RefusedInLength.no_cr_behind_minus_one (e ∙ ap (λ y. 45 ∷ y) (f ∙ ap (λ z. z ++ y) g ∙ ap (λ z. 49 ∷ z) h)) k)
fits_length limit came c w (inl (z, e, inr (u, x, y, f, g, inr (v, a, b, h, k, (l, m, n))))) =
    subst (λ (v : Refusal). RefusedInLength limit came c (refusal_number v)) (sym n) (RefusedInLength.no_lf_behind_minus_one (e ∙ ap (λ y. 45 ∷ y) (f ∙ ap (λ z. z ++ y) g ∙ ap (λ z. 49 ∷ z) (h ∙ ap (λ z. z ++ b) k ∙ ap (λ z. 13 ∷ z) l))) m)
fits_length limit came c w (inr (apart, inl (all, f))) = fits_digits limit came c w all apart f
fits_length limit came c w (inr (apart, inr (digits, all, e, f, g))) =
    subst (λ (v : Refusal). RefusedInLength limit came c (refusal_number v)) (sym g) (RefusedInLength.no_lf_behind_cr digits all e f)

-- in an integer
fits_number : (greatest most : ℕ) (sign digits : List ℕ) (c : ℕ) (w : Refusal) → length sign + most ≡ max_line → (sign ++ digits ≡ [] → (c ≢ 43) × (c ≢ 45)) → InDigits (of_integer greatest most) digits c w → RefusedInInteger greatest sign digits c (refusal_number w)
fits_number greatest most sign digits c w r e (other f g) = RefusedInInteger.no_digit f g e
fits_number greatest most sign digits c w r e (empty f g) = RefusedInInteger.cr_behind_no_digit g f
fits_number greatest most sign digits c w r e (both f g h) = RefusedInInteger.out_of_range f h
fits_number greatest most sign digits c w r e (full f g h) = RefusedInInteger.line_too_long (omega (arith, length-append sign digits, g, r)) (λ z. omega (arith, f.0, z))
fits_number greatest most sign digits c w r e (over f g h) = RefusedInInteger.out_of_range f h

-- behind a sign or none
fits_signed : (greatest most : ℕ) (sign part came : List ℕ) (c : ℕ) (w : Refusal) → IsSign sign greatest → length sign + most ≡ max_line → (sign ++ part ≡ [] → (c ≢ 43) × (c ≢ 45)) → came ≡ 58 ∷ sign ++ part → InNumber (of_integer greatest most) part c w → RefusedInLeaf came c (refusal_number w)
fits_signed greatest most sign part came c w s r apart e (inl (all, f)) =
    RefusedInLeaf.in_integer greatest sign part s all e (fits_number greatest most sign part c w r apart f)
fits_signed greatest most sign part came c w s r apart e (inr (digits, all, f, g, h)) =
    subst (λ (v : Refusal). RefusedInLeaf came c (refusal_number v)) (sym h) (RefusedInLeaf.no_lf_behind_integer greatest sign digits s all (e ∙ ap (λ z. 58 ∷ sign ++ z) f ∙ ap (λ z. 58 ∷ z) (sym (append_assoc sign digits (13 ∷ [])))) g)

fits_integer : (part came : List ℕ) (c : ℕ) (w : Refusal) → came ≡ 58 ∷ part → InInteger part c w → RefusedInLeaf came c (refusal_number w)
fits_integer part came c w e (inl (z, f, g)) =
    fits_signed (2 ^ 63 - 1) (max_line - 1) (43 ∷ []) z came c w (inl (inr refl, refl)) (omega arith) (λ h. cc) (e ∙ ap (λ y. 58 ∷ y) f) g
fits_integer part came c w e (inr (apart, inl (z, f, g))) =
    fits_signed (2 ^ 63) (max_line - 1) (45 ∷ []) z came c w (inr (refl, refl)) (omega arith) (λ h. cc) (e ∙ ap (λ y. 58 ∷ y) f) g
fits_integer part came c w e (inr (apart, inr (nor, g))) =
    fits_signed (2 ^ 63 - 1) max_line [] part came c w (inl (inl refl, refl)) (omega arith) (λ h. (apart h, nor h)) e g

-- in a line
fits_line : (kind : ℕ) (part came : List ℕ) (c : ℕ) (w : Refusal) → (kind ≡ 43) ⊎ (kind ≡ 45) → came ≡ kind ∷ part → InLine part c w → RefusedInLeaf came c (refusal_number w)
fits_line kind part came c w k e (inl (all, line_feed f)) = RefusedInLeaf.in_line kind part k all e (RefusedInLine.lf_behind_no_cr f)
fits_line kind part came c w k e (inl (all, too_long f g)) = RefusedInLeaf.in_line kind part k all e (RefusedInLine.line_too_long g f.0)
fits_line kind part came c w k e (inr (bytes, all, f, g, h)) =
    subst (λ (v : Refusal). RefusedInLeaf came c (refusal_number v)) (sym h) (RefusedInLeaf.no_lf_behind_line kind bytes k all (e ∙ ap (λ z. kind ∷ z) f) g)

-- in a bulk
fits_payload : (part x y came : List ℕ) (c : ℕ) (w : Refusal) (o : Option ℕ) → came ≡ 36 ∷ part → part ≡ x ++ y → IsCountOf max_bulk x o → InPayload o y c w → RefusedInLeaf came c (refusal_number w)
fits_payload part x y came c w None e f g h = absurd h
fits_payload part x y came c w (Some n) e f (inl (z, g, (u, h, k))) l = cc
fits_payload part x y came c w (Some n) e f (inr (m, (digits, g, h), k)) (inl l) = absurd l
fits_payload part x y came c w (Some n) e f (inr (m, (digits, g, h), k)) (inr (s, a, b, l, (a_is, len), p)) =
    let n_is : n ≡ m = cc in
    let fits : IsLength max_bulk digits (length s) = subst (λ (z : ℕ). IsLength max_bulk digits z) (sym (len ∙ n_is)) g in
    let all : came ≡ line 36 digits ++ s ++ b = e ∙ ap (λ z. 36 ∷ z) (f ∙ ap (λ z. z ++ y) h ∙ ap (λ z. (digits ++ line_end) ++ z) (l ∙ ap (λ z. z ++ b) a_is) ∙ sym (append_assoc (digits ++ line_end) s b)) in
    by digits s b fits all p
  where
    by : (digits s b : List ℕ) → IsLength max_bulk digits (length s) → came ≡ line 36 digits ++ s ++ b → ThenPlace (IsByte 13) (ByteIs 13 (λ _. BadLineEnd)) (λ _. ByteIs 10 (λ _. BadLineEnd)) b c w → RefusedInLeaf came c (refusal_number w)
    by digits s b fits all (inl (p, q, r)) =
        subst (λ (v : Refusal). RefusedInLeaf came c (refusal_number v)) (sym r) (RefusedInLeaf.no_cr_behind_bulk digits s fits (all ∙ ap (λ z. line 36 digits ++ s ++ z) p ∙ append-nil (line 36 digits ++ s)) q)
    by digits s b fits all (inr (u, x, y, p, q, (r, t, v))) =
        subst (λ (v : Refusal). RefusedInLeaf came c (refusal_number v)) (sym v) (RefusedInLeaf.no_lf_behind_bulk digits s fits (all ∙ ap (λ z. line 36 digits ++ s ++ z) (p ∙ ap (λ z. z ++ y) q ∙ ap (λ z. 13 ∷ z) r)) t)

-- in a value that is no array: behind the star of one too many too
fits_leaf : (came : List ℕ) (c : ℕ) (w : Refusal) → InLeaf came c w → RefusedInLeaf came c (refusal_number w) ⊎ ((came ≡ []) × (c ≡ 42) × (w ≡ TooDeep))
fits_leaf came c w (inl (z, e, inl f)) = inl (RefusedInLeaf.in_length z e (fits_length max_bulk z c w f))
fits_leaf came c w (inl (z, e, inr (o, x, y, f, g, h))) = inl (fits_payload z x y came c w o e f g h)
fits_leaf came c w (inr (apart, inl (z, e, f))) = inl (fits_line 43 z came c w (inl refl) e f)
fits_leaf came c w (inr (apart, inr (nor, inl (z, e, f)))) = inl (fits_line 45 z came c w (inr refl) e f)
fits_leaf came c w (inr (apart, inr (nor, inr (neither, inl (e, f, g))))) =
    elim (cases_Bool (eqb c 42)) [
      | inl h ↦ inr (e, eqb-true c 42 h, rw h at g)
      | inr h ↦
          inl (subst (λ (v : Refusal). RefusedInLeaf came c (refusal_number v)) (sym (let k : w ≡ BadType = rw h at g in k)) (RefusedInLeaf.no_type e (nor e) (neither e) f (apart e) (eqb-false c 42 h)))
    ]
fits_leaf came c w (inr (apart, inr (nor, inr (neither, inr (u, x, y, e, f, g))))) = inl (fits_integer y came c w (e ∙ ap (λ z. z ++ y) f) g)

-- in a member, behind whole ones
texts_more : (most left : ℕ) (x y : List ℕ) (ts : Trees) (t : Tree) → AreTexts most left x ts → IsText most left y t → (us : Trees) × AreTexts most left (x ++ y) us × (length (members us) ≡ suc (length (members ts)))
texts_more most left x y no_trees t g h = (tree t no_trees, (y, [], ap (λ z. z ++ y) g ∙ sym (append-nil y), h, refl), refl)
texts_more most left x y (tree u ts) t (front, back, split, text, others) h =
    let (us, texts, len) = texts_more most left back y ts t others h in
    (tree u us, (front, back ++ y, ap (λ z. z ++ y) split ∙ append_assoc front back y, text, texts), ap suc len)

module _ (most left : ℕ) (digits came : List ℕ) (c : ℕ) (w : Refusal) (n : ℕ) (len : IsLength most digits n) (inner : (part : List ℕ) → InValue most left part c w → RefusedInValue most left part c (refusal_number w)) where
  fits_many : (m : ℕ) (front part : List ℕ) (ts : Trees) → AreTexts most left front ts → length (members ts) + m ≡ n → came ≡ line 42 digits ++ front ++ part → InMany (IsText most left) (InValue most left) m part c w → RefusedInValue most (suc left) came c (refusal_number w)
  fits_many zero front part ts g l e f = absurd f
  fits_many (suc m) front part ts g l e (inl f) = inr (inr (digits, front, part, n, ts, len, g, omega (arith, l), e, inner part f))
  fits_many (suc m) front part ts g l e (inr (t, x, y, f, h, k)) =
      let (us, texts, more_len) = texts_more most left front x ts t g h in
      fits_many m (front ++ x) y us texts (omega (arith, l, more_len)) (e ∙ ap (λ z. line 42 digits ++ front ++ z) f ∙ append_assoc' x y) k
    where
      append_assoc' : (x y : List ℕ) → line 42 digits ++ front ++ (x ++ y) ≡ line 42 digits ++ (front ++ x) ++ y
      append_assoc' x y = append_assoc (line 42 digits) front (x ++ y) ∙ ap (λ z. line 42 digits ++ z) (sym (append_assoc front x y)) ∙ sym (append_assoc (line 42 digits) (front ++ x) y)

fits_members : (most left : ℕ) (part x y came : List ℕ) (c : ℕ) (w : Refusal) (o : Option ℕ) → ((part : List ℕ) → InValue most left part c w → RefusedInValue most left part c (refusal_number w)) → came ≡ 42 ∷ part → part ≡ x ++ y → IsCountOf most x o → InMembers most left (InValue most left) o y c w → RefusedInValue most (suc left) came c (refusal_number w)
fits_members most left part x y came c w None inner e f g h = absurd h
fits_members most left part x y came c w (Some n) inner e f (inl (z, g, (u, h, k))) l = cc
fits_members most left part x y came c w (Some n) inner e f (inr (m, (digits, g, h), k)) l =
    let n_is : n ≡ m = cc in
    fits_many most left digits came c w n (subst (λ (z : ℕ). IsLength most digits z) (sym n_is) g) inner n [] y no_trees refl (omega arith)
    (e ∙ ap (λ z. 42 ∷ z) (f ∙ ap (λ z. z ++ y) h) ∙ ap (λ z. z ++ y) (sym (append-nil (line 42 digits)))) l

pub fits_value : (most left : ℕ) (came : List ℕ) (c : ℕ) (w : Refusal) → InValue most left came c w → RefusedInValue most left came c (refusal_number w)
fits_value most zero came c w f =
    ⊎_elim (λ g. inl g) (λ (nil, star, w_is). inr (nil, star, ap refusal_number w_is)) (fits_leaf came c w f)
fits_value most (suc left) came c w (inl (z, e, inl f)) = inr (inl (z, e, fits_length most z c w f))
fits_value most (suc left) came c w (inl (z, e, inr (o, x, y, f, g, h))) =
    fits_members most left z x y came c w o (λ part k. fits_value most left part c w k) e f g h
fits_value most (suc left) came c w (inr (apart, f)) = ⊎_elim (λ g. inl g) (λ g. absurd (apart g.0 g.1)) (fits_leaf came c w f)

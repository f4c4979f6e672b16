-- What reading gives at the front of the bytes that are held, of which at most max_text + 1 are looked at.
use Rattle.std.proofs.Common.{◌≡◌, ◌≢◌, ◌⊎◌, inl, inr, ℕ, ◌+◌, ◌-◌, ◌<◌, ◌≤◌, List, [], ◌∷◌, ◌++◌, length, take, drop, refl, sym, ap, ◌∙◌, subst, append_assoc, append-nil, arith}
use Rattle.std.proofs.lemmas.List.{length-append, take_at, take-append-drop, length-take-le}
use Rattle.resp_core.specs.Tree.{Tree}
use Rattle.resp_core.specs.Grammar.{IsText, max_text, max_depth}
use Rattle.resp_core.specs.Reading.{Outcome, found, unfinished, refused, value_at}
use Rattle.resp_core.specs.Stream.{HasWhole}
use Rattle.resp_core.specs.FirstValue.{IsFirstValue, IsUnfinished, IsFault}
use Rattle.resp_core.specs.declared.error.Refusal.{Refusal}
use Rattle.resp_core.specs.declared.error.Refusal.TheVariants.{TooLong, TooDeep}
use Rattle.resp_core.specs.Offset.{refusal_number}
use Rattle.resp_core.specs.Refusals.{IsTold}
use Rattle.resp_core.proofs.reading.GrammarReaderLemmas.{IsFirst, IsReader}
use Rattle.resp_core.proofs.reading.WholeValueLemmas.{value-reads, InValue}
use Rattle.resp_core.proofs.refusals.ToldNumberLemmas.{told_by, told_deep, told_long, number_le}

-- the front of a list that two splits share
pub same_front : (x y a b : List ℕ) → x ++ y ≡ a ++ b → length x ≤ length a → (z : List ℕ) × (a ≡ x ++ z)
same_front [] y a b e h = (a, refl)
same_front (c ∷ x) y [] b e h = absurd (omega arith)
same_front (c ∷ x) y (d ∷ a) b e h =
    let c_is : c ≡ d = cc in
    let f : x ++ y ≡ a ++ b = cc in
    let q = same_front x y a b f (omega arith) in
    (q.0, ap (λ z. z ∷ a) (sym c_is) ∙ ap (λ z. c ∷ z) q.1)

module _ (most : ℕ) where
  read : List ℕ → Outcome Tree
  read = value_at most max_depth

  law : IsReader (IsText most max_depth) (InValue most max_depth) (value_at most max_depth)
  law = value-reads most max_depth

  module _ (held seen after : List ℕ) (split : held ≡ seen ++ after) where
    -- what is whole in the front is found there
    whole_is_found : (t : Tree) (x y : List ℕ) → held ≡ x ++ y → IsText most max_depth x t → length x ≤ length seen → (z : List ℕ) × (seen ≡ x ++ z) × (value_at most max_depth seen ≡ found t z)
    whole_is_found t x y e g h =
        let q = same_front x y seen after (sym e ∙ split) h in
        (q.0, q.1, ap (value_at most max_depth) q.1 ∙ law.again x q.0 t g)

    pub found_shorter : (t : Tree) (rest : List ℕ) → value_at most max_depth seen ≡ found t rest → length rest ≤ length seen
    found_shorter t rest e = let q = law.sound seen rest t e in omega (arith, ap length q.1, length-append q.0 rest)

    pub refused_shorter : (r : Refusal) (rest : List ℕ) → value_at most max_depth seen ≡ refused r rest → length rest ≤ length seen
    refused_shorter r rest e = let q = law.first seen rest r e in omega (arith, ap length q.split, length-append q.before rest)

    -- a value that is short enough
    pub first_found : (t : Tree) (rest : List ℕ) → value_at most max_depth seen ≡ found t rest → length seen - length rest ≤ max_text → IsFirstValue most held t (length seen - length rest)
    first_found t rest e h =
        let (x, seen_is, x_text) = law.sound seen rest t e in
        let len : length x ≡ length seen - length rest = omega (arith, ap length seen_is, length-append x rest) in
        let whole : held ≡ x ++ (rest ++ after) = split ∙ ap (λ z. z ++ after) seen_is ∙ append_assoc x rest after in
        record {
          inside = omega (arith, ap length whole, length-append x (rest ++ after));
          text = subst (λ (z : List ℕ). IsText most max_depth z t) (sym (ap (take (length seen - length rest)) whole ∙ take_at x (rest ++ after) _ len)) x_text;
          few = h;
        }

    -- bytes past the greatest length of a text that begins well
    too_long : (x : List ℕ) (t : Tree) → IsText most max_depth (seen ++ x) t → ((w : Refusal) (rest : List ℕ) → value_at most max_depth seen ≡ refused w rest → ⊥) → length seen ≡ max_text + 1 → (HasWhole most held → ⊥) → IsFault most held max_text 106
    too_long x t g well h none =
        let parts : seen ≡ take max_text seen ++ drop max_text seen = sym (take-append-drop max_text seen) in
        let len : length (take max_text seen) ≡ max_text = length-take-le max_text seen (omega arith) in
        by_rest (drop max_text seen) parts (omega (arith, ap length parts, length-append (take max_text seen) (drop max_text seen))) len
      where
        by_rest : (d : List ℕ) → seen ≡ take max_text seen ++ d → length d ≡ 1 → length (take max_text seen) ≡ max_text → IsFault most held max_text 106
        by_rest [] p l m = absurd (omega arith)
        by_rest (c ∷ d ∷ cs) p l m = absurd (omega arith)
        by_rest (c ∷ []) p l m = record {
          refused = record {
            before = take max_text seen;
            byte = c;
            after = after;
            split = split ∙ ap (λ w. w ++ after) p ∙ append_assoc (take max_text seen) (c ∷ []) after;
            place_is = m;
            fits = (c ∷ x, t, subst (λ (w : List ℕ). IsText most max_depth w t) (ap (λ w. w ++ x) p ∙ append_assoc (take max_text seen) (c ∷ []) x) g);
            few = omega arith;
            fails = inl m;
          };
          told = told_long most (take max_text seen) c (λ w rest e. well w rest (ap (value_at most max_depth) p ∙ e)) m;
          not_whole = none;
        }

    pub first_too_long : (t : Tree) (rest : List ℕ) → value_at most max_depth seen ≡ found t rest → length seen ≤ max_text + 1 → max_text < length seen - length rest → IsFault most held max_text 106
    first_too_long t rest e small h =
        let (x, seen_is, x_text) = law.sound seen rest t e in
        let len = ap length seen_is in
        let nil : rest ≡ [] = nil_of rest (omega (arith, len, length-append x rest)) in
        too_long [] t (subst (λ (w : List ℕ). IsText most max_depth w t) (sym (append-nil seen ∙ seen_is ∙ ap (λ w. x ++ w) nil ∙ append-nil x)) x_text) (λ w left f. cc) (omega arith)
        (λ (u, front, back, is, text, few).
        let (z, front_is, finds) = whole_is_found u front back is text (omega (arith, few)) in
        let g : found t rest ≡ found u z = sym e ∙ finds in
        let z_is : rest ≡ z = cc in
        omega (arith, few, ap length front_is, length-append front z, ap length (sym z_is ∙ nil)))
      where
        nil_of : (xs : List ℕ) → length xs ≡ 0 → xs ≡ []
        nil_of [] p = refl
        nil_of (c ∷ cs) p = absurd (omega arith)

    not_whole_before : value_at most max_depth seen ≡ unfinished → max_text ≤ length seen → HasWhole most held → ⊥
    not_whole_before e h (t, x, y, is, text, few) = let (z, _, finds) = whole_is_found t x y is text (omega (arith, few)) in cc

    pub first_unfinished_long : value_at most max_depth seen ≡ unfinished → length seen ≡ max_text + 1 → IsFault most held max_text 106
    first_unfinished_long e h =
        let (more, t, text) = law.opens seen e in
        too_long more t text (λ w left f. cc) h (not_whole_before e (omega arith))

    -- a refused byte, by the number that it is told
    refused_by : (r : Refusal) (rest : List ℕ) (number : ℕ) → value_at most max_depth seen ≡ refused r rest → length seen ≤ max_text + 1 → ((q : IsFirst (InValue most max_depth) (value_at most max_depth) seen rest r) → length q.before ≡ length seen - length rest → IsTold most q.before q.byte number) → IsFault most held (length seen - length rest) number
    refused_by r rest number e small told =
        let q = law.first seen rest r e in
        let len = ap length q.split in
        let rest_len = ap length q.rest_is in
        record {
          refused = record {
            before = q.before;
            byte = q.byte;
            after = q.after ++ after;
            split = split ∙ ap (λ z. z ++ after) (q.split ∙ ap (λ z. q.before ++ z) q.rest_is) ∙ append_assoc q.before (q.byte ∷ q.after) after;
            place_is = omega (arith, len, length-append q.before rest);
            fits = law.opens q.before q.fits;
            few = omega (arith, len, length-append q.before rest, rest_len);
            fails = inr (λ (more, t, text). stays_refused r (q.before ++ q.byte ∷ []) (q.byte ∷ []) q.fails more t text);
          };
          told = told q (omega (arith, len, length-append q.before rest));
          not_whole = λ (t, x, y, is, text, _).
              let f : value_at most max_depth held ≡ refused r (rest ++ after) = ap (value_at most max_depth) split ∙ law.stays seen after rest r e in
              let g : value_at most max_depth held ≡ found t y = ap (value_at most max_depth) is ∙ law.again x y t text in
              cc;
        }
      where
        stays_refused : (v : Refusal) (b left : List ℕ) → value_at most max_depth b ≡ refused v left → (more : List ℕ) (t : Tree) → IsText most max_depth (b ++ more) t → ⊥
        stays_refused v b left f more t g =
            let k = law.stays b more left v f in
            let l = law.again (b ++ more) [] t g in
            let m = append-nil (b ++ more) in
            let n : value_at most max_depth (b ++ more) ≡ found t [] = ap (value_at most max_depth) (sym m) ∙ l in
            cc

    pub first_refused : (r : Refusal) (rest : List ℕ) → value_at most max_depth seen ≡ refused r rest → length seen ≤ max_text + 1 → (length seen - length rest ≡ max_text → r ≢ TooDeep) → IsFault most held (length seen - length rest) (refusal_number r)
    first_refused r rest e small h =
        refused_by r rest (refusal_number r) e small (λ q l. told_by most q.before q.byte r q.fits q.fails q.place (λ m. number_le r (h (sym l ∙ m))))

    pub first_refused_deep : (rest : List ℕ) → value_at most max_depth seen ≡ refused TooDeep rest → length seen ≤ max_text + 1 → length seen - length rest ≡ max_text → IsFault most held (length seen - length rest) 106
    first_refused_deep rest e small h =
        refused_by TooDeep rest 106 e small (λ q l. told_deep most q.before q.byte q.fits q.fails (l ∙ h))

    pub first_told : (r w : Refusal) (rest : List ℕ) → value_at most max_depth seen ≡ refused r rest → length seen ≤ max_text + 1 → ((r ≡ TooDeep) × (length seen - length rest ≡ max_text) × (w ≡ TooLong)) ⊎ ((length seen - length rest ≡ max_text → r ≢ TooDeep) × (w ≡ r)) → IsFault most held (length seen - length rest) (refusal_number w)
    first_told r w rest e small (inl (f, g, h)) =
        subst (λ (z : Refusal). IsFault most held (length seen - length rest) (refusal_number z)) (sym h) (first_refused_deep rest (e ∙ ap (λ z. refused z rest) f) small g)
    first_told r w rest e small (inr (f, g)) = subst (λ (z : Refusal). IsFault most held (length seen - length rest) (refusal_number z)) (sym g) (first_refused r rest e small f)

  pub first_unfinished : (held : List ℕ) → value_at most max_depth held ≡ unfinished → length held ≤ max_text → IsUnfinished most held
  first_unfinished held e h = record {
    begins = law.opens held e;
    few = h;
    not_whole = λ (t, x, y, is, text, _). let g : value_at most max_depth held ≡ found t y = ap (value_at most max_depth) is ∙ law.again x y t text in cc;
  }

-- Laws of streams and readers.
use Rattle.std.proofs.Common.{◌≡◌, ◌⊎◌, inl, inr, ⊎_elim, ℕ, ◌+◌, ◌-◌, ◌<◌, ◌≤◌, List, [], ◌∷◌, ◌++◌, length, take, refl, sym, ap, ◌∙◌, subst, append_assoc, arith}
use Rattle.std.proofs.lemmas.List.{length-append, length-take}
use Rattle.resp_core.specs.FirstValue.{IsFirstValue, IsUnfinished, IsFault}
use Rattle.resp_core.specs.Tree.{Tree}
use Rattle.resp_core.specs.Grammar.{IsText, max_text, max_depth}
use Rattle.resp_core.specs.Reading.{found, value_at}
use Rattle.resp_core.specs.Stream.{HasWhole, Splits, AreValues, Begins, told_offset, HasRefusal, HasNoRefusal}
use Rattle.resp_core.specs.Laws.{OneReading}
use Rattle.resp_core.proofs.reading.WholeValueLemmas.{value-reads, text_nonempty}

module _ (most : ℕ) where
  -- more bytes behind
  pub splits_fed : (b rest x : List ℕ) (ts : List Tree) → Splits most b ts rest → Splits most (b ++ x) ts (rest ++ x)
  splits_fed b rest x [] g = ap (λ z. z ++ x) g
  splits_fed b rest x (t ∷ ts) (front, back, split, text, few, others) = (front, back ++ x, ap (λ z. z ++ x) split ∙ append_assoc front back x, text, few, splits_fed back rest x ts others)

  -- one value more
  pub splits_more : (b rest x y : List ℕ) (ts : List Tree) (t : Tree) → Splits most b ts rest → rest ≡ x ++ y → IsText most max_depth x t → length x ≤ max_text → Splits most b (ts ++ t ∷ []) y
  splits_more b rest x y [] t g e f h = (x, y, g ∙ e, f, h, refl)
  splits_more b rest x y (u ∷ us) t (front, back, split, text, few, others) e f h = (front, back, split, text, few, splits_more back rest x y us t others e f h)

  pub splits_shorter : (b rest : List ℕ) (ts : List Tree) → Splits most b ts rest → length rest ≤ length b
  splits_shorter b rest [] g = omega (arith, ap length g)
  splits_shorter b rest (t ∷ ts) (front, back, split, _, _, others) = omega (arith, ap length split, length-append front back, splits_shorter back rest ts others)

  -- of two readings of one stream the one leaves no more, or could go on
  splits_compared : (b r s : List ℕ) (ts us : List Tree) → Splits most b ts r → Splits most b us s → (length r ≤ length s) ⊎ HasWhole most r
  splits_compared b r s [] [] g h = inl (omega (arith, ap length g, ap length h))
  splits_compared b r s [] (u ∷ us) g (front, back, split, text, few, _) = inr (u, front, back, sym g ∙ split, text, few)
  splits_compared b r s (t ∷ ts) [] g h = inl (omega (arith, splits_shorter b r (t ∷ ts) g, ap length h))
  splits_compared b r s (t ∷ ts) (u ∷ us) (x, y, split, text, _, others) (x', y', split', text', _, others') =
      let law = value-reads most max_depth in
      let e : found t y ≡ found u y' = sym (law.again x y t text) ∙ ap (value_at most max_depth) (sym split ∙ split') ∙ law.again x' y' u text' in
      let y_is : y ≡ y' = cc in
      splits_compared y r s ts us others (subst (λ (z : List ℕ). Splits most z us s) (sym y_is) others')

  pub are_values : (b rest : List ℕ) (ts : List Tree) → Splits most b ts rest → (HasWhole most rest → ⊥) → AreValues most b ts rest
  are_values b rest ts g hasnt = record {
    splits = g;
    longest = λ others left h. ⊎_elim (λ l. l) (λ w. absurd (hasnt w)) (splits_compared b rest left ts others g h);
  }

-- an offset that is told, and one that lies so many bytes behind it
pub told_later : (told n more : ℕ) → told ≡ told_offset n → told_offset (told + more) ≡ told_offset (n + more)
told_later told n more e = omega (arith, e)

-- the value at the front takes a byte at least
pub first_value_some : (most : ℕ) (held : List ℕ) (t : Tree) (len : ℕ) → IsFirstValue most held t len → 0 < len
first_value_some most held t len f = omega (arith, length-take len held, text_nonempty most max_depth (take len held) t f.text)

-- behind these values nothing is whole, and nothing is refused
pub no_refusal_of : (most : ℕ) (b held : List ℕ) (ts : List Tree) → Splits most b ts held → IsUnfinished most held → HasNoRefusal most b ts
no_refusal_of most b held ts g f = record {
  rest = held;
  values = are_values most b held ts g f.not_whole;
  none = λ place w. ⊎_elim (λ e. omega (arith, f.few, ap length w.split, length-append w.before (w.byte ∷ w.after))) (λ n. n (goes_on w.before w.byte w.after w.split)) w.fails;
}
  where
    goes_on : (x : List ℕ) (c : ℕ) (y : List ℕ) → held ≡ x ++ c ∷ y → Begins most (x ++ c ∷ [])
    goes_on x c y e =
        let (more, t, text) = f.begins in
        (y ++ more, t, subst (λ (z : List ℕ). IsText most max_depth z t) (ap (λ z. z ++ more) e ∙ append_assoc x (c ∷ y) more ∙ sym (append_assoc x (c ∷ []) (y ++ more))) text)

-- a stream in which a byte is refused
pub refusal_of_fault : (most : ℕ) (b held : List ℕ) (ts : List Tree) (place number : ℕ) → Splits most b ts held → IsFault most held place number → HasRefusal most b ts (told_offset (length b - length held + place)) number
refusal_of_fault most b held ts place number g f = record {
  rest = held;
  values = are_values most b held ts g f.not_whole;
  place = place;
  refused = f.refused;
  told = f.told;
  offset_is = refl;
}

-- of two readings of one stream the one that leaves less goes on from the other
begins_with : (most : ℕ) (b : List ℕ) (ts us : List Tree) (rest left : List ℕ) → Splits most b ts rest → Splits most b us left → length rest ≤ length left → (more : List Tree) × (ts ≡ us ++ more)
begins_with most b ts [] rest left g h l = (ts, refl)
begins_with most b [] (u ∷ us) rest left g (front, back, split, text, _, others) l =
    absurd (omega (arith, ap length g, ap length split, length-append front back, splits_shorter most back left us others, text_nonempty most max_depth front u text))
begins_with most b (t ∷ ts) (u ∷ us) rest left (x, y, split, text, _, others) (x', y', split', text', _, others') l =
    let law = value-reads most max_depth in
    let e : found t y ≡ found u y' = sym (law.again x y t text) ∙ ap (value_at most max_depth) (sym split ∙ split') ∙ law.again x' y' u text' in
    let y_is : y ≡ y' = cc in
    let t_is : t ≡ u = cc in
    let q = begins_with most y ts us rest left others (subst (λ (z : List ℕ). Splits most z us left) (sym y_is) others') l in
    (q.0, ap (λ z. z ∷ ts) t_is ∙ ap (λ z. u ∷ z) q.1)

pub one_reading : OneReading
one_reading most b ts us rest left g h = begins_with most b ts us rest left g.splits h (g.longest us left h)

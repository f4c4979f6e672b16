-- The laws of texts and streams.
use Rattle.std.proofs.Common.{◌≡◌, ◌⊎◌, inl, inr, ⊎_elim, ℕ, zero, suc, ◌+◌, ◌-◌, ◌<◌, ◌≤◌, Bool, true, false, List, [], ◌∷◌, ◌++◌, length, take, drop, refl, sym, ap, ◌∙◌, subst, append_assoc, append-nil, arith}
use Rattle.std.proofs.lemmas.Bool.{cases_eq}
use Rattle.std.proofs.lemmas.List.{append_cancel_left, length-append, length-take, length-take-le, length-drop, take_all, take-append-drop}
use Rattle.resp_core.specs.Tree.{Tree}
use Rattle.resp_core.specs.Grammar.{IsText, max_text, max_depth}
use Rattle.resp_core.specs.Reading.{Outcome, found, unfinished, refused, value_at}
use Rattle.resp_core.specs.Text.{text}
use Rattle.resp_core.specs.Offset.{refusal_number}
use Rattle.resp_core.specs.Refusals.{IsTold}
use Rattle.resp_core.specs.declared.error.Refusal.TheVariants.{TooLong}
use Rattle.resp_core.specs.FirstValue.{IsFirstValue, IsUnfinished, IsFault}
use Rattle.resp_core.specs.Stream.{HasWhole, Splits, AreValues, IsRefusedAt, HasRefusal, HasNoRefusal, told_offset}
use Rattle.resp_core.specs.Laws.{NoTextBeginsAnother, Holds, EachStreamHolds, OneHolding, RefusalStays, OneRefusedByte, OneRefusal, ValuesStay, TextIsReadBack, TextIsReadNext, ValuesGoOn}
use Rattle.resp_core.proofs.reading.WholeValueLemmas.{value-reads, text_nonempty}
use Rattle.resp_core.proofs.streams.FirstValueLemmas.{same_front, first_found, first_too_long, first_unfinished, first_unfinished_long, first_told}
use Rattle.resp_core.proofs.refusals.ToldNumberLemmas.{cases_deep, one_number}
use Rattle.resp_core.proofs.streams.SplitsLemmas.{splits_fed, splits_more, are_values, no_refusal_of, refusal_of_fault, one_reading}
use Rattle.resp_core.proofs.RoundTripLemmas.{text_is_read}

-- of two numbers one is at most the other
pub le_or_lt : (m n : ℕ) → (m ≤ n) ⊎ (n < m)
le_or_lt zero n = inl (omega arith)
le_or_lt (suc m) zero = inr (omega arith)
le_or_lt (suc m) (suc n) = ⊎_elim (λ l. inl (omega (arith, l))) (λ l. inr (omega (arith, l))) (le_or_lt m n)

pub no_text_begins_another : NoTextBeginsAnother
no_text_begins_another most b more t u g h =
    let law = value-reads most max_depth in
    let e : found t more ≡ found u [] = sym (law.again b more t g) ∙ ap (value_at most max_depth) (sym (append-nil (b ++ more))) ∙ law.again (b ++ more) [] u h in
    let more_is : more ≡ [] = cc in
    let t_is : t ≡ u = cc in
    (more_is, t_is)

-- what stands at the front of bytes: a whole value, the beginning of one, or a byte that is refused
data Stood (most : ℕ) (held : List ℕ) : Type 0 where
  whole : (t : Tree) (len : ℕ) → IsFirstValue most held t len → Stood most held
  begun : IsUnfinished most held → Stood most held
  fault : (place number : ℕ) → IsFault most held place number → Stood most held

module _ (most : ℕ) (held : List ℕ) where
  abbrev seen : List ℕ
  seen = take (max_text + 1) held

  split : held ≡ seen ++ drop (max_text + 1) held
  split = sym (take-append-drop (max_text + 1) held)

  few_seen : length seen ≤ max_text + 1
  few_seen = omega (arith, length-take (max_text + 1) held)

  stood_by : (o : Outcome Tree) → value_at most max_depth seen ≡ o → Stood most held
  stood_by (found t rest) e =
      ⊎_elim (λ l. whole t (length seen - length rest) (first_found most held seen _ split t rest e l))
      (λ l. fault max_text 106 (first_too_long most held seen _ split t rest e few_seen l)) (le_or_lt (length seen - length rest) max_text)
  stood_by unfinished e =
      ⊎_elim (λ l. begun (first_unfinished most held (ap (value_at most max_depth) (sym (take_all (max_text + 1) held (omega (arith, l)))) ∙ e) l))
      (λ l. fault max_text 106 (first_unfinished_long most held seen _ split e (length-take-le (max_text + 1) held (omega (arith, l))))) (le_or_lt (length held) max_text)
  stood_by (refused r rest) e =
      elim (cases_eq (length seen - length rest) max_text) [
        | inl l ↦
            ⊎_elim (λ h. fault (length seen - length rest) (refusal_number TooLong) (first_told most held seen _ split r TooLong rest e few_seen (inl (h, l, refl))))
            (λ h. fault (length seen - length rest) (refusal_number r) (first_told most held seen _ split r r rest e few_seen (inr ((λ _. h), refl)))) (cases_deep r)
        | inr l ↦ fault (length seen - length rest) (refusal_number r) (first_told most held seen _ split r r rest e few_seen (inr ((λ m. absurd (l m)), refl)))
      ]

  stood : Stood most held
  stood = stood_by (value_at most max_depth seen) refl

-- the values of a stream, and what stands behind them
abbrev Held : ℕ → List ℕ → Type 0
Held most b = (ts : List Tree) × (rest : List ℕ) × Splits most b ts rest × (IsUnfinished most rest ⊎ ((place number : ℕ) × IsFault most rest place number))

-- a stream of at most n bytes, by what stands at its front
held_by : (n most : ℕ) (b : List ℕ) → length b ≤ n → Stood most b → Held most b
held_by n most b l (begun f) = ([], b, refl, inl f)
held_by n most b l (fault place number f) = ([], b, refl, inr (place, number, f))
held_by zero most b l (whole t len f) = absurd (omega (arith, f.inside, text_nonempty most max_depth (take len b) t f.text, length-take len b))
held_by (suc n) most b l (whole t len f) =
    let (ts, rest, splits, end) = held_by n most (drop len b) (omega (arith, f.inside, l, text_nonempty most max_depth (take len b) t f.text, length-take len b, length-drop len b)) (stood most (drop len b)) in
    (t ∷ ts, rest, (take len b, drop len b, sym (take-append-drop len b), f.text, omega (arith, length-take len b, f.few), splits), end)

pub each_stream_holds : EachStreamHolds
each_stream_holds most b =
    let (ts, rest, splits, end) = held_by (length b) most b (omega arith) (stood most b) in
    elim end [
      | inl f ↦ (ts, false, no_refusal_of most b rest ts splits f)
      | inr (place, number, f) ↦ (ts, true, (_, number, refusal_of_fault most b rest ts place number splits f))
    ]

-- nothing whole stands in front of what is left of a stream
none_whole : (most : ℕ) (b : List ℕ) (ts : List Tree) (rest : List ℕ) → AreValues most b ts rest → HasWhole most rest → ⊥
none_whole most b ts rest g (t, x, y, is, text, few) =
    omega (arith, g.longest (ts ++ t ∷ []) y (splits_more most b rest x y ts t g.splits is text few), ap length is, length-append x y, text_nonempty most max_depth x t text)

-- a text whose front is the refused byte and what stands before it
no_text_over : (most : ℕ) (rest : List ℕ) (place : ℕ) → IsRefusedAt most rest place → (x y : List ℕ) (t : Tree) → (more : List ℕ) → rest ++ more ≡ x ++ y → IsText most max_depth x t → length x ≤ max_text → place < length x → ⊥
no_text_over most rest place f x y t more e g few l =
    let front : (f.before ++ f.byte ∷ []) ++ (f.after ++ more) ≡ x ++ y =
    append_assoc f.before (f.byte ∷ []) (f.after ++ more) ∙ sym (append_assoc f.before (f.byte ∷ f.after) more) ∙ ap (λ z. z ++ more) (sym f.split) ∙ e in
    let q = same_front (f.before ++ f.byte ∷ []) (f.after ++ more) x y front (omega (arith, length-append f.before (f.byte ∷ []), f.place_is, l)) in
    ⊎_elim (λ m. omega (arith, m, f.place_is, few, l)) (λ n. n (q.0, t, subst (λ (z : List ℕ). IsText most max_depth z t) q.1 g)) f.fails

pub refusal_stays : RefusalStays
refusal_stays most b more ts offset number h = record {
  rest = h.rest ++ more;
  values = are_values most (b ++ more) (h.rest ++ more) ts (splits_fed most b h.rest more ts h.values.splits) (λ (t, x, y, is, text, few). ⊎_elim (λ l. short t x y is text few l) (λ l. no_text_over most h.rest h.place h.refused x y t more is text few l) (le_or_lt (length x) h.place));
  place = h.place;
  refused = record {
    before = h.refused.before;
    byte = h.refused.byte;
    after = h.refused.after ++ more;
    split = ap (λ z. z ++ more) h.refused.split ∙ append_assoc h.refused.before (h.refused.byte ∷ h.refused.after) more;
    place_is = h.refused.place_is;
    fits = h.refused.fits;
    few = h.refused.few;
    fails = h.refused.fails;
  };
  told = h.told;
  offset_is = h.offset_is ∙ ap (λ z. told_offset (z + h.place)) (omega (arith, length-append b more, length-append h.rest more));
}
  where
    -- a text that ends before the refused byte
    short : (t : Tree) (x y : List ℕ) → h.rest ++ more ≡ x ++ y → IsText most max_depth x t → length x ≤ max_text → length x ≤ h.place → ⊥
    short t x y e g few l =
        let f = h.refused in
        let q = same_front x y f.before (f.byte ∷ f.after ++ more) (sym e ∙ ap (λ z. z ++ more) f.split ∙ append_assoc f.before (f.byte ∷ f.after) more) (omega (arith, l, f.place_is)) in
        none_whole most b ts h.rest h.values (t, x, q.0 ++ f.byte ∷ f.after, f.split ∙ ap (λ z. z ++ f.byte ∷ f.after) q.1 ∙ append_assoc x q.0 (f.byte ∷ f.after), g, few)

-- of two refused bytes the first one
none_behind : (most : ℕ) (rest : List ℕ) (m n : ℕ) → IsRefusedAt most rest m → IsRefusedAt most rest n → m < n → ⊥
none_behind most rest m n f g l =
    let front : (f.before ++ f.byte ∷ []) ++ f.after ≡ g.before ++ g.byte ∷ g.after = append_assoc f.before (f.byte ∷ []) f.after ∙ sym f.split ∙ g.split in
    let q = same_front (f.before ++ f.byte ∷ []) f.after g.before (g.byte ∷ g.after) front (omega (arith, length-append f.before (f.byte ∷ []), f.place_is, g.place_is, l)) in
    let (more, t, reads) = g.fits in
    ⊎_elim (λ e. omega (arith, e, f.place_is, g.place_is, g.few, l))
    (λ h. h (q.0 ++ more, t, subst (λ (z : List ℕ). IsText most max_depth z t) (ap (λ z. z ++ more) q.1 ∙ append_assoc (f.before ++ f.byte ∷ []) q.0 more) reads)) f.fails

pub one_refused_byte : OneRefusedByte
one_refused_byte most rest m n f g =
    ⊎_elim (λ l. ⊎_elim (λ k. omega (arith, l, k)) (λ k. absurd (none_behind most rest m n f g k)) (le_or_lt n m))
    (λ l. absurd (none_behind most rest n m g f l)) (le_or_lt m n)

-- the same values leave the same bytes
same_rest : (most : ℕ) (b : List ℕ) (ts : List Tree) (rest left : List ℕ) → Splits most b ts rest → Splits most b ts left → rest ≡ left
same_rest most b [] rest left g h = sym g ∙ h
same_rest most b (t ∷ ts) rest left (x, y, is, text, _, others) (x', y', is', text', _, others') =
    let law = value-reads most max_depth in
    let e : found t y ≡ found t y' = sym (law.again x y t text) ∙ ap (value_at most max_depth) (sym is ∙ is') ∙ law.again x' y' t text' in
    let y_is : y ≡ y' = cc in
    same_rest most y ts rest left others (subst (λ (z : List ℕ). Splits most z ts left) (sym y_is) others')

-- the values of a stream that is refused, or is not
values_of : (most : ℕ) (b : List ℕ) (ts : List Tree) (refused : Bool) → Holds most b ts refused → (rest : List ℕ) × AreValues most b ts rest
values_of most b ts true (_, _, h) = (h.rest, h.values)
values_of most b ts false h = (h.rest, h.values)

-- each of two lists begins with the other
same_list : (ts us : List Tree) → ((more : List Tree) × (ts ≡ us ++ more)) → ((more : List Tree) × (us ≡ ts ++ more)) → ts ≡ us
same_list ts us f g = nil_end f.0 f.1 (omega (arith, ap length f.1, ap length g.1, length-append us f.0, length-append ts g.0))
  where
    nil_end : (more : List Tree) → ts ≡ us ++ more → length more ≡ 0 → ts ≡ us
    nil_end [] e l = e ∙ append-nil us
    nil_end (t ∷ more) e l = absurd (omega (arith, l))

same_values : (most : ℕ) (b : List ℕ) (ts us : List Tree) (rest left : List ℕ) → AreValues most b ts rest → AreValues most b us left → ts ≡ us
same_values most b ts us rest left g h = same_list ts us (one_reading most b ts us rest left g h.splits) (one_reading most b us ts left rest h g.splits)

-- a stream is not both refused and not refused
not_both : (most : ℕ) (b : List ℕ) (ts us : List Tree) (offset number : ℕ) → HasNoRefusal most b ts → HasRefusal most b us offset number → ⊥
not_both most b ts us offset number g h =
    let e = same_values most b ts us g.rest h.rest g.values h.values in
    let r = same_rest most b us h.rest g.rest h.values.splits (subst (λ (z : List Tree). Splits most b z g.rest) e g.values.splits) in
    g.none h.place (subst (λ (z : List ℕ). IsRefusedAt most z h.place) r h.refused)

-- the same place has the same bytes before it
same_place : (most : ℕ) (rest left : List ℕ) (m n : ℕ) → rest ≡ left → (f : IsRefusedAt most rest m) (g : IsRefusedAt most left n) → (m ≡ n) × (f.before ≡ g.before) × (f.byte ≡ g.byte)
same_place most rest left m n e f g =
    let place_is : m ≡ n = one_refused_byte most left m n (subst (λ (z : List ℕ). IsRefusedAt most z m) e f) g in
    let whole : f.before ++ f.byte ∷ f.after ≡ g.before ++ g.byte ∷ g.after = sym f.split ∙ e ∙ g.split in
    let q = same_front f.before (f.byte ∷ f.after) g.before (g.byte ∷ g.after) whole (omega (arith, f.place_is, g.place_is, place_is)) in
    let before_is : f.before ≡ g.before = nil_end q.0 q.1 (omega (arith, ap length q.1, length-append f.before q.0, f.place_is, g.place_is, place_is)) in
    let tail : f.byte ∷ f.after ≡ g.byte ∷ g.after = append_cancel_left f.before _ _ (whole ∙ ap (λ z. z ++ g.byte ∷ g.after) (sym before_is)) in
    let byte_is : f.byte ≡ g.byte = cc in
    (place_is, before_is, byte_is)
  where
    nil_end : (z : List ℕ) → g.before ≡ f.before ++ z → length z ≡ 0 → f.before ≡ g.before
    nil_end [] p l = sym (p ∙ append-nil f.before)
    nil_end (c ∷ z) p l = absurd (omega (arith, l))

pub one_refusal : OneRefusal
one_refusal most b ts us offset other number another g h =
    let e = same_values most b ts us g.rest h.rest g.values h.values in
    let rest_is : g.rest ≡ h.rest = same_rest most b us g.rest h.rest (subst (λ (z : List Tree). Splits most b z g.rest) e g.values.splits) h.values.splits in
    let (place_is, before_is, byte_is) = same_place most g.rest h.rest g.place h.place rest_is g.refused h.refused in
    let told : IsTold most h.refused.before h.refused.byte number = subst (λ (z : List ℕ). IsTold most z h.refused.byte number) before_is (subst (λ (z : ℕ). IsTold most g.refused.before z number) byte_is g.told) in
    (omega (arith, g.offset_is, h.offset_is, place_is, ap length rest_is), one_number most h.refused.before h.refused.byte number another told h.told)

pub one_holding : OneHolding
one_holding most b ts us r s g h =
    let (rest, f) = values_of most b ts r g in
    let (left, k) = values_of most b us s h in
    (same_values most b ts us rest left f k, by r s g h)
  where
    by : (r s : Bool) → Holds most b ts r → Holds most b us s → r ≡ s
    by true true g h = refl
    by false false g h = refl
    by false true g (offset, number, h) = absurd (not_both most b ts us offset number g h)
    by true false (offset, number, g) h = absurd (not_both most b us ts offset number h g)

pub values_stay : ValuesStay
values_stay most b more rest ts us r g h =
    let (left, f) = values_of most (b ++ more) us r h in
    one_reading most (b ++ more) us ts left (rest ++ more) f (splits_fed most b rest more ts g)

-- the values of a stream, and then those of what they leave
pub splits_then : (most : ℕ) (b rest more left : List ℕ) (ts us : List Tree) → Splits most b ts rest → Splits most (rest ++ more) us left → Splits most (b ++ more) (ts ++ us) left
splits_then most b rest more left [] us g h = subst (λ (z : List ℕ). Splits most (z ++ more) us left) (sym g) h
splits_then most b rest more left (t ∷ ts) us (x, y, is, text, few, others) h =
    (x, y ++ more, ap (λ z. z ++ more) is ∙ append_assoc x y more, text, few, splits_then most y rest more left ts us others h)

pub values_go_on : ValuesGoOn
values_go_on most b more rest ts us false g h = record {
  rest = h.rest;
  values = are_values most (b ++ more) h.rest (ts ++ us) (splits_then most b rest more h.rest ts us g h.values.splits) (none_whole most (rest ++ more) us h.rest h.values);
  none = h.none;
}
values_go_on most b more rest ts us true g (offset, number, h) = (
  told_offset (length (b ++ more) - length h.rest + h.place),
  number,
  record {
    rest = h.rest;
    values = are_values most (b ++ more) h.rest (ts ++ us) (splits_then most b rest more h.rest ts us g h.values.splits) (none_whole most (rest ++ more) us h.rest h.values);
    place = h.place;
    refused = h.refused;
    told = h.told;
    offset_is = refl;
  },
)

pub text_is_read_back : TextIsReadBack
text_is_read_back most t more ts r small within plain few h =
    let (rest, f) = values_of most (text t ++ more) ts r h in
    one_reading most (text t ++ more) ts (t ∷ []) rest more f (text t, more, refl, text_is_read most max_depth t small within plain, few, refl)

pub text_is_read_next : TextIsReadNext
text_is_read_next most b more ts us t r small within plain few g h =
    let (rest, f) = values_of most b us r h in
    let q = one_reading most b us (ts ++ t ∷ []) rest more f (splits_more most b (text t ++ more) (text t) more ts t g refl (text_is_read most max_depth t small within plain) few) in
    (q.0, q.1 ∙ append_assoc ts (t ∷ []) q.0)

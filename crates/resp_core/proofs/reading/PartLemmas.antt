-- That the functions of specs/Reading.antt read just the texts of their parts of the grammar.
use Rattle.std.proofs.Common.{◌≡◌, append_assoc, append-nil, subst, ℕ, zero, suc, ◌+◌, ◌-◌, ◌*◌, ◌<◌, ◌≤◌, inl, inr, true, false, ◌&&◌, eqb, ltb, leb, List, [], ◌∷◌, ◌++◌, length, take, drop, replicate, refl, sym, ap, ◌∙◌, arith, eqb-true, ltb-true, ltb-false, leb-true, le-leb, le-ltb, lt-ltb, ne_eqb, eq-eqb}
use Rattle.std.specs.List.{AllByRecursion}
use Rattle.std.proofs.lemmas.Bool.{cases_Bool, cases_lt, eqb-false, and_parts, and_from}
use Rattle.std.proofs.lemmas.List.{take-append-drop, take_at, drop_at, length-append, length-replicate, length-take-le}
use Rattle.resp_core.specs.declared.error.Refusal.{Refusal}
use Rattle.resp_core.specs.declared.error.Refusal.TheVariants.{BadLineEnd, TooLong}
use Rattle.resp_core.specs.Grammar.{IsDigit, IsLine, number_after, max_line}
use Rattle.resp_core.proofs.reading.RefusedPlaces.{ByteIs, InDigits, other, empty, both, full, over, InNumber, InText, line_feed, too_long, InLine}
use Rattle.resp_core.specs.Refusals.{IsLineByte}
use Rattle.resp_core.specs.Text.{line_end}
use Rattle.resp_core.specs.declared.digits.Digits.{Digits}
use Rattle.resp_core.specs.Reading.{Outcome, found, unfinished, refused, and_then, byte_at, end_at, digits_at, bytes_at, text_at}
use Rattle.resp_core.proofs.reading.GrammarReaderLemmas.{IsFirst, IsReader, first_behind, Then, ThenPlace, Then-reads, IsReader-same, IsReader-placed, Nowhere, Pure, Pure-reads}

-- this byte and no other
abbrev pub IsByte : ℕ → List ℕ → Unit {0} → Type 0
IsByte k x u = x ≡ k ∷ []

pub byte_at_same : (k : ℕ) (r : ℕ → Refusal) (c : ℕ) (cs : List ℕ) → eqb c k ≡ true → byte_at k r (c ∷ cs) ≡ found tt cs
unfolding byte_at
byte_at_same k r c cs e = rw e

pub byte_at_other : (k : ℕ) (r : ℕ → Refusal) (c : ℕ) (cs : List ℕ) → eqb c k ≡ false → byte_at k r (c ∷ cs) ≡ refused (r c) (c ∷ cs)
unfolding byte_at
byte_at_other k r c cs e = rw e

pub byte_at_nil : (k : ℕ) (r : ℕ → Refusal) → byte_at k r [] ≡ unfinished
unfolding byte_at
byte_at_nil k r = refl

module _ (k : ℕ) (r : ℕ → Refusal) where
  byte_sound : (b y : List ℕ) (u : Unit {0}) → byte_at k r b ≡ found u y → (x : List ℕ) × (b ≡ x ++ y) × IsByte k x u
  byte_sound [] y u e = let f = byte_at_nil k r in cc
  byte_sound (c ∷ cs) y u e =
      elim (cases_Bool (eqb c k)) [
        | inl t ↦ let f = byte_at_same k r c cs t in let c_is : c ≡ k = eqb-true c k t in let rest : cs ≡ y = cc in (k ∷ [], (let g : c ∷ cs ≡ k ∷ y = cc in g), refl)
        | inr t ↦ let f = byte_at_other k r c cs t in cc
      ]

  byte_opens : (b : List ℕ) → byte_at k r b ≡ unfinished → (more : List ℕ) × (u : Unit {0}) × IsByte k (b ++ more) u
  byte_opens [] e = (k ∷ [], tt, refl)
  byte_opens (c ∷ cs) e =
      elim (cases_Bool (eqb c k)) [
        | inl t ↦ let f = byte_at_same k r c cs t in cc
        | inr t ↦ let f = byte_at_other k r c cs t in cc
      ]

  byte_stays : (b more rest : List ℕ) (w : Refusal) → byte_at k r b ≡ refused w rest → byte_at k r (b ++ more) ≡ refused w (rest ++ more)
  byte_stays [] more rest w e = let f = byte_at_nil k r in cc
  byte_stays (c ∷ cs) more rest w e =
      elim (cases_Bool (eqb c k)) [
        | inl t ↦ let f = byte_at_same k r c cs t in cc
        | inr t ↦ let f = byte_at_other k r c cs t in let g = byte_at_other k r c (cs ++ more) t in let h : c ∷ cs ≡ rest = cc in let i : r c ≡ w = cc in g ∙ ap (λ z. refused z (c ∷ cs ++ more)) i ∙ ap (λ z. refused w (z ++ more)) h
      ]

  byte_first : (b rest : List ℕ) (w : Refusal) → byte_at k r b ≡ refused w rest → IsFirst (ByteIs k r) (byte_at k r) b rest w
  byte_first [] rest w e = let f = byte_at_nil k r in cc
  byte_first (c ∷ cs) rest w e =
      elim (cases_Bool (eqb c k)) [
        | inl t ↦ let f = byte_at_same k r c cs t in cc
        | inr t ↦
            let f = byte_at_other k r c cs t in
            let h : rest ≡ c ∷ cs = cc in
            let i : r c ≡ w = cc in
            record {
              before = [];
              byte = c;
              after = cs;
              rest_is = h;
              split = sym h;
              fits = byte_at_nil k r;
              fails = byte_at_other k r c [] t ∙ ap (λ z. refused z (c ∷ [])) i;
              place = (refl, eqb-false c k t, sym i);
            }
      ]

  pub byte-reads : IsReader (IsByte k) (ByteIs k r) (byte_at k r)
  byte-reads = record {
    again = λ x y u g. ap (λ z. byte_at k r (z ++ y)) g ∙ byte_at_same k r k y (eq-eqb k k refl);
    sound = byte_sound;
    opens = byte_opens;
    stays = byte_stays;
    first = byte_first;
  }

-- CR and LF
abbrev pub IsEnd : List ℕ → Unit {0} → Type 0
IsEnd x u = x ≡ line_end

abbrev pub InEnd : List ℕ → ℕ → Refusal → Type 0
InEnd = ThenPlace (IsByte 13) (ByteIs 13 (λ _. BadLineEnd)) (λ _. ByteIs 10 (λ _. BadLineEnd))

pub end-reads : IsReader IsEnd InEnd end_at
unfolding end_at
end-reads =
    IsReader-same {G = Then (IsByte 13) (λ _. IsByte 10)}
    (λ b u (_, _, lf, split, cr_is, lf_is). split ∙ ap (λ z. z ++ lf) cr_is ∙ ap (λ z. 13 ∷ z) lf_is)
    (λ b u g. (tt, 13 ∷ [], 10 ∷ [], g, refl, refl))
    (Then-reads (IsByte 13) (ByteIs 13 (λ _. BadLineEnd)) (byte_at 13 (λ _. BadLineEnd)) (byte-reads 13 (λ _. BadLineEnd)) (λ _. IsByte 10) (λ _. ByteIs 10 (λ _. BadLineEnd)) (λ _ rest. byte_at 10 (λ _. BadLineEnd) rest) (λ _. byte-reads 10 (λ _. BadLineEnd)) (λ _. (10 ∷ [], tt, refl)))

-- so many bytes
abbrev pub AreBytes : ℕ → List ℕ → List ℕ → Type 0
AreBytes n x s = (x ≡ s) × (length s ≡ n)

bytes_at_all : (n : ℕ) (b : List ℕ) → n ≤ length b → bytes_at n b ≡ found (take n b) (drop n b)
unfolding bytes_at
bytes_at_all n b h = rw (le-ltb (length b) n h)

bytes_at_few : (n : ℕ) (b : List ℕ) → length b < n → bytes_at n b ≡ unfinished
unfolding bytes_at
bytes_at_few n b h = rw (lt-ltb (length b) n h)

module _ (n : ℕ) where
  bytes_again : (x y s : List ℕ) → AreBytes n x s → bytes_at n (x ++ y) ≡ found s y
  bytes_again x y s g =
      let e : x ≡ s = g.0 in
      let f : length x ≡ n = ap length e ∙ g.1 in
      bytes_at_all n (x ++ y) (omega (arith, length-append x y)) ∙ ap (λ z. found z (drop n (x ++ y))) (take_at x y n f ∙ e) ∙ ap (λ z. found s z) (drop_at x y n f)

  bytes_sound : (b y s : List ℕ) → bytes_at n b ≡ found s y → (x : List ℕ) × (b ≡ x ++ y) × AreBytes n x s
  bytes_sound b y s e =
      elim (cases_lt (length b) n) [
        | inl h ↦ let f = bytes_at_few n b h in cc
        | inr h ↦
            let f = bytes_at_all n b h in
            let s_is : take n b ≡ s = cc in
            let y_is : drop n b ≡ y = cc in
            (take n b, sym (take-append-drop n b) ∙ ap (λ z. take n b ++ z) y_is, (s_is, sym (ap length s_is) ∙ length-take-le n b h))
      ]

  bytes_opens : (b : List ℕ) → bytes_at n b ≡ unfinished → (more s : List ℕ) × AreBytes n (b ++ more) s
  bytes_opens b e =
      elim (cases_lt (length b) n) [
        | inl h ↦ (replicate (n - length b) 0, b ++ replicate (n - length b) 0, (refl, omega (arith, length-append b (replicate (n - length b) 0), length-replicate {A = ℕ} (n - length b) 0)))
        | inr h ↦ let f = bytes_at_all n b h in cc
      ]

  bytes_not_refused : {P : Type 0} (b rest : List ℕ) (w : Refusal) → bytes_at n b ≡ refused w rest → P
  bytes_not_refused b rest w e =
      elim (cases_lt (length b) n) [
        | inl h ↦ let f = bytes_at_few n b h in cc
        | inr h ↦ let f = bytes_at_all n b h in cc
      ]

  pub bytes-reads : IsReader (AreBytes n) Nowhere (bytes_at n)
  bytes-reads = record {
    again = bytes_again;
    sound = bytes_sound;
    opens = bytes_opens;
    stays = λ b more rest w e. bytes_not_refused b rest w e;
    first = λ b rest w e. bytes_not_refused b rest w e;
  }

-- LF, behind a number
abbrev pub feed : ℕ → List ℕ → Outcome ℕ
feed n cs = and_then (byte_at 10 (λ _. BadLineEnd) cs) (λ _ rest. found n rest)

abbrev IsLineFeed : ℕ → List ℕ → ℕ → Type 0
IsLineFeed n x m = (x ≡ 10 ∷ []) × (m ≡ n)

-- nothing is refused in the second part
pub from_first : {A : Type 0} (G : List ℕ → A → Type 0) (N : List ℕ → ℕ → Refusal → Type 0) (b : List ℕ) (c : ℕ) (w : Refusal) → ThenPlace G N (λ _. Nowhere) b c w → N b c w
from_first G N b c w (inl n) = n
from_first G N b c w (inr (a, x, y, e, g, n)) = absurd n

line_feed-reads : (n : ℕ) → IsReader (IsLineFeed n) (ByteIs 10 (λ _. BadLineEnd)) (feed n)
line_feed-reads n =
    IsReader-same {G = Then (IsByte 10) (λ _. Pure n)}
    (λ b m (_, _, back, split, lf_is, (nil, m_is)). (split ∙ ap (λ z. z ++ back) lf_is ∙ ap (λ z. 10 ∷ z) nil, m_is))
    (λ b m (lf_is, m_is). (tt, 10 ∷ [], [], lf_is, refl, (refl, m_is)))
    (IsReader-placed (from_first (IsByte 10) (ByteIs 10 (λ _. BadLineEnd))) (Then-reads (IsByte 10) (ByteIs 10 (λ _. BadLineEnd)) (byte_at 10 (λ _. BadLineEnd)) (byte-reads 10 (λ _. BadLineEnd)) (λ _. Pure n) (λ _. Nowhere) (λ _ rest. found n rest) (λ _. Pure-reads n) (λ _. ([], n, (refl, refl)))))

-- what a byte does to a length of which count digits came
pub data DigitStep (d : Digits) (count n c : ℕ) : Type 0 where
  stops : (r : Refusal) → ((cs : List ℕ) → digits_at d count n (c ∷ cs) ≡ refused r (c ∷ cs)) → DigitStep d count n c
  ends : c ≡ 13 → 0 < count → ((cs : List ℕ) → digits_at d count n (c ∷ cs) ≡ feed n cs) → DigitStep d count n c
  goes : IsDigit c → count < d.most → n * 10 + (c - 48) ≤ d.limit → ((cs : List ℕ) → digits_at d count n (c ∷ cs) ≡ digits_at d (count + 1) (n * 10 + (c - 48)) cs) → DigitStep d count n c

digit_step_digit : (d : Digits) (count n c : ℕ) → count ≤ d.most → eqb c 13 ≡ false → (leb 48 c && leb c 57) ≡ true → DigitStep d count n c
unfolding digits_at
digit_step_digit d count n c h e f =
    let p = and_parts (leb 48 c) (leb c 57) f in
    let low = leb-true 48 c p.0 in
    let high = leb-true c 57 p.1 in
    elim (cases_Bool (eqb count d.most)) [
      | inl g ↦
          elim (cases_Bool (ltb d.limit (n * 10 + (c - 48)))) [
            | inl k ↦ stops d.both (λ cs. rw (e, f, g, k))
            | inr k ↦ stops d.full (λ cs. rw (e, f, g, k))
          ]
      | inr g ↦
          elim (cases_Bool (ltb d.limit (n * 10 + (c - 48)))) [
            | inl k ↦ stops d.over (λ cs. rw (e, f, g, k))
            | inr k ↦
                let ne = eqb-false count d.most g in
                let few : count < d.most = omega arith in
                goes (low, high) few (ltb-false d.limit (n * 10 + (c - 48)) k) (λ cs. rw (e, f, g, k))
          ]
    ]

pub digit_step : (d : Digits) (count n c : ℕ) → count ≤ d.most → DigitStep d count n c
unfolding digits_at
digit_step d count n c h =
    elim (cases_Bool (eqb c 13)) [
      | inl e ↦
          elim (cases_Bool (eqb count 0)) [
            | inl f ↦ stops d.bad (λ cs. rw (e, f))
            | inr f ↦
                let ne = eqb-false count 0 f in
                ends (eqb-true c 13 e) (omega arith) (λ cs. rw (e, f))
          ]
      | inr e ↦
          elim (cases_Bool (leb 48 c && leb c 57)) [
            | inl f ↦ digit_step_digit d count n c h e f
            | inr f ↦ stops d.bad (λ cs. rw (e, f))
          ]
    ]

pub digits_at_nil : (d : Digits) (count n : ℕ) → digits_at d count n [] ≡ unfinished
unfolding digits_at
digits_at_nil d count n = refl

-- the digits that are read, behind count that write n
pub record AreDigits (d : Digits) (count n : ℕ) (x : List ℕ) (m : ℕ) : Type 0 where
  pub digits : List ℕ
  pub is : x ≡ digits ++ line_end
  pub some : 0 < count + length digits
  pub few : count + length digits ≤ d.most
  pub each : AllByRecursion IsDigit digits
  pub value : number_after n digits ≡ m
  pub within : m ≤ d.limit

number_after-ge : (n : ℕ) (ds : List ℕ) → n ≤ number_after n ds
number_after-ge n [] = omega arith
number_after-ge n (d ∷ ds) = omega (arith, number_after-ge (n * 10 + (d - 48)) ds)

-- one digit more in front
digits_more : (d : Digits) (count n c : ℕ) (x : List ℕ) (m : ℕ) → IsDigit c → AreDigits d (count + 1) (n * 10 + (c - 48)) x m → AreDigits d count n (c ∷ x) m
digits_more d count n c x m g w = record {
  digits = c ∷ w.digits;
  is = ap (λ z. c ∷ z) w.is;
  some = omega arith;
  few = omega (arith, w.few);
  each = (g, w.each);
  value = w.value;
  within = w.within;
}

-- CR behind a digit, and a digit where there is room
pub digits_13 : (d : Digits) (count n : ℕ) → 0 < count → (cs : List ℕ) → digits_at d count n (13 ∷ cs) ≡ feed n cs
unfolding digits_at
digits_13 d count n some cs = let e : eqb count 0 ≡ false = ne_eqb count 0 (λ z. omega arith) in rw e

digits_digit : (d : Digits) (count n c : ℕ) → IsDigit c → count < d.most → n * 10 + (c - 48) ≤ d.limit → (cs : List ℕ) → digits_at d count n (c ∷ cs) ≡ digits_at d (count + 1) (n * 10 + (c - 48)) cs
unfolding digits_at
digits_digit d count n c digit few within cs =
    let e : eqb c 13 ≡ false = ne_eqb c 13 (λ z. omega (arith, digit.0)) in
    let f : (leb 48 c && leb c 57) ≡ true = and_from (leb 48 c) (leb c 57) (le-leb 48 c digit.0) (le-leb c 57 digit.1) in
    let g : eqb count d.most ≡ false = ne_eqb count d.most (λ z. omega arith) in
    let k : ltb d.limit (n * 10 + (c - 48)) ≡ false = le-ltb d.limit (n * 10 + (c - 48)) within in
    rw (e, f, g, k)

pub number_push : (n : ℕ) (ds : List ℕ) (c : ℕ) → number_after n (ds ++ c ∷ []) ≡ number_after n ds * 10 + (c - 48)
number_push n [] c = refl
number_push n (x ∷ ds) c = number_push (n * 10 + (x - 48)) ds c

all_push : (ds : List ℕ) (c : ℕ) → AllByRecursion IsDigit ds → IsDigit c → AllByRecursion IsDigit (ds ++ c ∷ [])
all_push [] c all g = (g, tt)
all_push (x ∷ ds) c all g = (all.0, all_push ds c all.1 g)

nil_of_length : (ds : List ℕ) → length ds ≡ 0 → ds ≡ []
nil_of_length [] e = refl
nil_of_length (x ∷ ds) e = absurd (omega arith)

no_digit : (c : ℕ) → (leb 48 c && leb c 57) ≡ false → IsDigit c → ⊥
no_digit c e g = let f = and_from (leb 48 c) (leb c 57) (le-leb 48 c g.0) (le-leb c 57 g.1) in cc

-- why a byte behind digits is refused
digits_reason : (d : Digits) (ds : List ℕ) (count n c : ℕ) (w : Refusal) → count ≤ d.most → length ds ≡ count → number_after 0 ds ≡ n → digits_at d count n (c ∷ []) ≡ refused w (c ∷ []) → InDigits d ds c w
unfolding digits_at byte_at
digits_reason d ds count n c w room len num e =
    let next : number_after 0 (ds ++ c ∷ []) ≡ n * 10 + (c - 48) = number_push 0 ds c ∙ ap (λ z. z * 10 + (c - 48)) num in
    elim (cases_Bool (eqb c 13)) [
      | inl a ↦
          elim (cases_Bool (eqb count 0)) [
            | inl b ↦
                let f = rw (a, b) at e in
                let w_is : d.bad ≡ w = cc in
                subst (λ (z : Refusal). InDigits d ds c z) w_is (empty (eqb-true c 13 a) (nil_of_length ds (len ∙ eqb-true count 0 b)))
            | inr b ↦ let f = rw (a, b) at e in cc
          ]
      | inr a ↦
          elim (cases_Bool (leb 48 c && leb c 57)) [
            | inl g ↦
                let p = and_parts (leb 48 c) (leb c 57) g in
                let digit : IsDigit c = (leb-true 48 c p.0, leb-true c 57 p.1) in
                elim (cases_Bool (eqb count d.most)) [
                  | inl h ↦
                      let most = eqb-true count d.most h in
                      elim (cases_Bool (ltb d.limit (n * 10 + (c - 48)))) [
                        | inl k ↦
                            let f = rw (a, g, h, k) at e in
                            let w_is : d.both ≡ w = cc in
                            subst (λ (z : Refusal). InDigits d ds c z) w_is (both digit (len ∙ most) (omega (arith, ltb-true d.limit (n * 10 + (c - 48)) k, next)))
                        | inr k ↦
                            let f = rw (a, g, h, k) at e in
                            let w_is : d.full ≡ w = cc in
                            subst (λ (z : Refusal). InDigits d ds c z) w_is (full digit (len ∙ most) (omega (arith, ltb-false d.limit (n * 10 + (c - 48)) k, next)))
                      ]
                  | inr h ↦
                      elim (cases_Bool (ltb d.limit (n * 10 + (c - 48)))) [
                        | inl k ↦
                            let f = rw (a, g, h, k) at e in
                            let w_is : d.over ≡ w = cc in
                            subst (λ (z : Refusal). InDigits d ds c z) w_is (over digit (omega (arith, eqb-false count d.most h)) (omega (arith, ltb-true d.limit (n * 10 + (c - 48)) k, next)))
                        | inr k ↦ let f = rw (a, g, h, k) at e in cc
                      ]
                ]
            | inr g ↦
                let f = rw (a, g) at e in
                let w_is : d.bad ≡ w = cc in
                subst (λ (z : Refusal). InDigits d ds c z) w_is (other (no_digit c g) (eqb-false c 13 a))
          ]
    ]

module _ (d : Digits) where
  digits_again : (count n : ℕ) (ds y : List ℕ) (m : ℕ) → 0 < count + length ds → count + length ds ≤ d.most → AllByRecursion IsDigit ds → number_after n ds ≡ m → m ≤ d.limit → digits_at d count n ((ds ++ line_end) ++ y) ≡ found m y
  digits_again count n [] y m some few each value within =
      digits_13 d count n (omega arith) (10 ∷ y) ∙ (line_feed-reads n).again (10 ∷ []) y n (refl, refl) ∙ ap (λ z. found z y) value
  digits_again count n (c ∷ ds) y m some few each value within =
      digits_digit d count n c each.0 (omega arith) (omega (arith, number_after-ge (n * 10 + (c - 48)) ds)) ((ds ++ line_end) ++ y)
      ∙ digits_again (count + 1) (n * 10 + (c - 48)) ds y m (omega arith) (omega arith) each.1 value within

  digits_sound : (count n : ℕ) (b y : List ℕ) (m : ℕ) → count ≤ d.most → n ≤ d.limit → digits_at d count n b ≡ found m y → (x : List ℕ) × (b ≡ x ++ y) × AreDigits d count n x m
  digits_sound count n [] y m h k e = let f = digits_at_nil d count n in cc
  digits_sound count n (c ∷ cs) y m h k e =
      elim (digit_step d count n c h) [
        | stops r p ↦ let f = p cs in cc
        | ends c_is some p ↦
            let g : feed n cs ≡ found m y = sym (p cs) ∙ e in
            let (x, split, (lf_is, m_is)) = (line_feed-reads n).sound cs y m g in (
              c ∷ x,
              ap (λ z. c ∷ z) split,
              record {
                digits = [];
                is = ap (λ z. z ∷ x) c_is ∙ ap (λ z. 13 ∷ z) lf_is;
                some = omega arith;
                few = omega arith;
                each = tt;
                value = sym m_is;
                within = omega arith;
              },
            )
        | goes g few within p ↦
            let (x, split, digits) = digits_sound (count + 1) (n * 10 + (c - 48)) cs y m (omega arith) within (sym (p cs) ∙ e) in
            (c ∷ x, ap (λ z. c ∷ z) split, digits_more d count n c x m g digits)
      ]

  digits_opens : (count n : ℕ) (b : List ℕ) → count ≤ d.most → n ≤ d.limit → 0 < d.most → (count ≡ 0 → n ≡ 0) → digits_at d count n b ≡ unfinished → (more : List ℕ) × (m : ℕ) × AreDigits d count n (b ++ more) m
  digits_opens zero n [] h k room z e =
      let n_is = z refl in (
        48 ∷ line_end,
        n * 10,
        record {
          digits = 48 ∷ [];
          is = refl;
          some = omega arith;
          few = omega arith;
          each = ((omega arith, omega arith), tt);
          value = omega arith;
          within = omega arith;
        },
      )
  digits_opens (suc count) n [] h k room z e = (
    line_end,
    n,
    record {
      digits = [];
      is = refl;
      some = omega arith;
      few = omega arith;
      each = tt;
      value = refl;
      within = k;
    },
  )
  digits_opens count n (c ∷ cs) h k room z e =
      elim (digit_step d count n c h) [
        | stops r p ↦ let f = p cs in cc
        | ends c_is some p ↦
            let (more, m, (lf_is, m_is)) = (line_feed-reads n).opens cs (sym (p cs) ∙ e) in (
              more,
              m,
              record {
                digits = [];
                is = ap (λ w. w ∷ cs ++ more) c_is ∙ ap (λ w. 13 ∷ w) lf_is;
                some = omega arith;
                few = omega arith;
                each = tt;
                value = sym m_is;
                within = omega arith;
              },
            )
        | goes g few within p ↦
            let (more, m, digits) = digits_opens (count + 1) (n * 10 + (c - 48)) cs (omega arith) within room (λ w. absurd (omega arith)) (sym (p cs) ∙ e) in
            (more, m, digits_more d count n c (cs ++ more) m g digits)
      ]

  digits_stays : (count n : ℕ) (b more rest : List ℕ) (w : Refusal) → count ≤ d.most → digits_at d count n b ≡ refused w rest → digits_at d count n (b ++ more) ≡ refused w (rest ++ more)
  digits_stays count n [] more rest w h e = let f = digits_at_nil d count n in cc
  digits_stays count n (c ∷ cs) more rest w h e =
      elim (digit_step d count n c h) [
        | stops r p ↦
            let f = p cs in
            let r_is : r ≡ w = cc in
            let rest_is : c ∷ cs ≡ rest = cc in
            p (cs ++ more) ∙ ap (λ z. refused z (c ∷ cs ++ more)) r_is ∙ ap (λ z. refused w (z ++ more)) rest_is
        | ends c_is some p ↦ p (cs ++ more) ∙ (line_feed-reads n).stays cs more rest w (sym (p cs) ∙ e)
        | goes g few within p ↦ p (cs ++ more) ∙ digits_stays (count + 1) (n * 10 + (c - 48)) cs more rest w (omega arith) (sym (p cs) ∙ e)
      ]

  -- in digits, behind these
  abbrev From : List ℕ → List ℕ → ℕ → Refusal → Type 0
  From ds before c w = InNumber d (ds ++ before) c w

  digits_first : (ds : List ℕ) (count n : ℕ) (b rest : List ℕ) (w : Refusal) → AllByRecursion IsDigit ds → length ds ≡ count → number_after 0 ds ≡ n → count ≤ d.most → digits_at d count n b ≡ refused w rest → IsFirst (From ds) (digits_at d count n) b rest w
  digits_first ds count n [] rest w all len num h e = let f = digits_at_nil d count n in cc
  digits_first ds count n (c ∷ cs) rest w all len num h e =
      elim (digit_step d count n c h) [
        | stops r p ↦
            let f = p cs in
            let r_is : r ≡ w = cc in
            let rest_is : rest ≡ c ∷ cs = cc in
            let fails : digits_at d count n (c ∷ []) ≡ refused w (c ∷ []) = p [] ∙ ap (λ z. refused z (c ∷ [])) r_is in
            record {
              before = [];
              byte = c;
              after = cs;
              rest_is = rest_is;
              split = sym rest_is;
              fits = digits_at_nil d count n;
              fails = fails;
              place = subst (λ (z : List ℕ). InNumber d z c w) (sym (append-nil ds)) (inl (all, digits_reason d ds count n c w h len num fails));
            }
        | ends c_is some p ↦
            first_behind (ByteIs 10 (λ _. BadLineEnd)) (From ds) (digits_at d count n) (feed n) c cs rest w p
            (λ z b (nil, no_lf, w_is). inr (ds, all, ap (λ y. ds ++ y) (ap (λ y. c ∷ y) nil ∙ ap (λ y. y ∷ []) c_is), no_lf, w_is)) ((line_feed-reads n).first cs rest w (sym (p cs) ∙ e))
        | goes g few within p ↦
            first_behind (From (ds ++ c ∷ [])) (From ds) (digits_at d count n) (digits_at d (count + 1) (n * 10 + (c - 48))) c cs rest w p
            (λ z b k. subst (λ (y : List ℕ). InNumber d y b w) (append_assoc ds (c ∷ []) z) k)
            (digits_first (ds ++ c ∷ []) (count + 1) (n * 10 + (c - 48)) cs rest w (all_push ds c all g) (omega (arith, length-append ds (c ∷ []))) (number_push 0 ds c ∙ ap (λ z. z * 10 + (c - 48)) num) (omega arith) (sym (p cs) ∙ e))
      ]

-- the digits of a number, from the first on
pub record AreAllDigits (d : Digits) (x : List ℕ) (m : ℕ) : Type 0 where
  pub digits : List ℕ
  pub is : x ≡ digits ++ line_end
  pub some : 0 < length digits
  pub few : length digits ≤ d.most
  pub each : AllByRecursion IsDigit digits
  pub value : number_after 0 digits ≡ m
  pub within : m ≤ d.limit

all_digits : (d : Digits) (x : List ℕ) (m : ℕ) → AreDigits d 0 0 x m → AreAllDigits d x m
all_digits d x m w = record { digits = w.digits; is = w.is; some = omega (arith, w.some); few = omega (arith, w.few); each = w.each; value = w.value; within = w.within }

pub digits-reads : (d : Digits) → 0 < d.most → IsReader (AreAllDigits d) (InNumber d) (digits_at d 0 0)
digits-reads d room = record {
  again = λ x y m g. ap (λ z. digits_at d 0 0 (z ++ y)) g.is ∙ digits_again d 0 0 g.digits y m (omega (arith, g.some)) (omega (arith, g.few)) g.each g.value g.within;
  sound = λ b y m e. let (x, split, digits) = digits_sound d 0 0 b y m (omega arith) (omega arith) e in (x, split, all_digits d x m digits);
  opens = λ b e. let (more, m, digits) = digits_opens d 0 0 b (omega arith) (omega arith) room (λ _. refl) e in (more, m, all_digits d (b ++ more) m digits);
  stays = λ b more rest w e. digits_stays d 0 0 b more rest w (omega arith) e;
  first = λ b rest w e. digits_first d [] 0 0 b rest w tt refl refl (omega arith) e;
}

-- LF, behind the bytes of a line
abbrev pub line_end_behind : List ℕ → List ℕ → Outcome (List ℕ)
line_end_behind seen cs = and_then (byte_at 10 (λ _. BadLineEnd) cs) (λ _ rest. found seen rest)

abbrev IsLineEndBehind : List ℕ → List ℕ → List ℕ → Type 0
IsLineEndBehind seen x s = (x ≡ 10 ∷ []) × (s ≡ seen)

line_end_behind-reads : (seen : List ℕ) → IsReader (IsLineEndBehind seen) (ByteIs 10 (λ _. BadLineEnd)) (line_end_behind seen)
line_end_behind-reads seen =
    IsReader-same {G = Then (IsByte 10) (λ _. Pure seen)}
    (λ b s (_, _, back, split, lf_is, (nil, s_is)). (split ∙ ap (λ z. z ++ back) lf_is ∙ ap (λ z. 10 ∷ z) nil, s_is))
    (λ b s (lf_is, s_is). (tt, 10 ∷ [], [], lf_is, refl, (refl, s_is)))
    (IsReader-placed (from_first (IsByte 10) (ByteIs 10 (λ _. BadLineEnd))) (Then-reads (IsByte 10) (ByteIs 10 (λ _. BadLineEnd)) (byte_at 10 (λ _. BadLineEnd)) (byte-reads 10 (λ _. BadLineEnd)) (λ _. Pure seen) (λ _. Nowhere) (λ _ rest. found seen rest) (λ _. Pure-reads seen) (λ _. ([], seen, (refl, refl)))))

-- what a byte does to a line of which these bytes came
pub data TextStep (seen : List ℕ) (c : ℕ) : Type 0 where
  stops : (r : Refusal) → ((cs : List ℕ) → text_at seen (c ∷ cs) ≡ refused r (c ∷ cs)) → TextStep seen c
  ends : c ≡ 13 → ((cs : List ℕ) → text_at seen (c ∷ cs) ≡ line_end_behind seen cs) → TextStep seen c
  goes : IsLineByte c → length seen < max_line → ((cs : List ℕ) → text_at seen (c ∷ cs) ≡ text_at (seen ++ c ∷ []) cs) → TextStep seen c

pub text_step : (seen : List ℕ) (c : ℕ) → length seen ≤ max_line → TextStep seen c
unfolding text_at
text_step seen c h =
    elim (cases_Bool (eqb c 13)) [
      | inl e ↦ ends (eqb-true c 13 e) (λ cs. rw e)
      | inr e ↦
          elim (cases_Bool (eqb c 10)) [
            | inl f ↦ stops BadLineEnd (λ cs. rw (e, f))
            | inr f ↦
                elim (cases_Bool (eqb (length seen) max_line)) [
                  | inl g ↦ stops TooLong (λ cs. rw (e, f, g))
                  | inr g ↦
                      let ne = eqb-false (length seen) max_line g in
                      let few : length seen < max_line = omega arith in
                      goes (eqb-false c 13 e, eqb-false c 10 f) few (λ cs. rw (e, f, g))
                ]
          ]
    ]

pub text_at_nil : (seen : List ℕ) → text_at seen [] ≡ unfinished
unfolding text_at
text_at_nil seen = refl

pub text_13 : (seen cs : List ℕ) → text_at seen (13 ∷ cs) ≡ line_end_behind seen cs
unfolding text_at
text_13 seen cs = refl

text_byte : (seen : List ℕ) (c : ℕ) → IsLineByte c → length seen < max_line → (cs : List ℕ) → text_at seen (c ∷ cs) ≡ text_at (seen ++ c ∷ []) cs
unfolding text_at
text_byte seen c t few cs =
    let e : eqb c 13 ≡ false = ne_eqb c 13 t.0 in
    let f : eqb c 10 ≡ false = ne_eqb c 10 t.1 in
    let g : eqb (length seen) max_line ≡ false = ne_eqb (length seen) max_line (λ z. omega arith) in
    rw (e, f, g)

-- the rest of a line of which these bytes came
record IsLineRest (seen x s : List ℕ) : Type 0 where
  more : List ℕ
  is : x ≡ more ++ line_end
  whole : s ≡ seen ++ more
  each : AllByRecursion IsLineByte more
  few : length s ≤ max_line

line_more : (seen : List ℕ) (c : ℕ) (x s : List ℕ) → IsLineByte c → IsLineRest (seen ++ c ∷ []) x s → IsLineRest seen (c ∷ x) s
line_more seen c x s t w = record {
  more = c ∷ w.more;
  is = ap (λ z. c ∷ z) w.is;
  whole = w.whole ∙ append_assoc seen (c ∷ []) w.more;
  each = (t, w.each);
  few = w.few;
}

line_over : (seen x s : List ℕ) → length seen ≤ max_line → x ≡ line_end → s ≡ seen → IsLineRest seen x s
line_over seen x s h e f = record {
  more = [];
  is = e;
  whole = f ∙ sym (append-nil seen);
  each = tt;
  few = omega (arith, ap length f);
}

text_again : (seen more y : List ℕ) → length (seen ++ more) ≤ max_line → AllByRecursion IsLineByte more → text_at seen ((more ++ line_end) ++ y) ≡ found (seen ++ more) y
text_again seen [] y h g = text_13 seen (10 ∷ y) ∙ (line_end_behind-reads seen).again (10 ∷ []) y seen (refl, refl) ∙ ap (λ z. found z y) (sym (append-nil seen))
text_again seen (c ∷ more) y h g =
    let e = append_assoc seen (c ∷ []) more in
    text_byte seen c g.0 (omega (arith, length-append seen (c ∷ more))) ((more ++ line_end) ++ y) ∙ text_again (seen ++ c ∷ []) more y (omega (arith, ap length e)) g.1 ∙ ap (λ z. found z y) e

text_sound : (seen b y s : List ℕ) → length seen ≤ max_line → text_at seen b ≡ found s y → (x : List ℕ) × (b ≡ x ++ y) × IsLineRest seen x s
text_sound seen [] y s h e = let f = text_at_nil seen in cc
text_sound seen (c ∷ cs) y s h e =
    elim (text_step seen c h) [
      | stops r p ↦ let f = p cs in cc
      | ends c_is p ↦
          let (x, split, (lf_is, s_is)) = (line_end_behind-reads seen).sound cs y s (sym (p cs) ∙ e) in
          (c ∷ x, ap (λ z. c ∷ z) split, line_over seen (c ∷ x) s h (ap (λ z. z ∷ x) c_is ∙ ap (λ z. 13 ∷ z) lf_is) s_is)
      | goes t few p ↦
          let (x, split, line) = text_sound (seen ++ c ∷ []) cs y s (omega (arith, length-append seen (c ∷ []))) (sym (p cs) ∙ e) in
          (c ∷ x, ap (λ z. c ∷ z) split, line_more seen c x s t line)
    ]

text_opens : (seen b : List ℕ) → length seen ≤ max_line → text_at seen b ≡ unfinished → (more s : List ℕ) × IsLineRest seen (b ++ more) s
text_opens seen [] h e = (line_end, seen, line_over seen line_end seen h refl refl)
text_opens seen (c ∷ cs) h e =
    elim (text_step seen c h) [
      | stops r p ↦ let f = p cs in cc
      | ends c_is p ↦
          let (more, s, (lf_is, s_is)) = (line_end_behind-reads seen).opens cs (sym (p cs) ∙ e) in
          (more, s, line_over seen (c ∷ cs ++ more) s h (ap (λ z. z ∷ cs ++ more) c_is ∙ ap (λ z. 13 ∷ z) lf_is) s_is)
      | goes t few p ↦
          let (more, s, line) = text_opens (seen ++ c ∷ []) cs (omega (arith, length-append seen (c ∷ []))) (sym (p cs) ∙ e) in
          (more, s, line_more seen c (cs ++ more) s t line)
    ]

text_stays : (seen b more rest : List ℕ) (w : Refusal) → length seen ≤ max_line → text_at seen b ≡ refused w rest → text_at seen (b ++ more) ≡ refused w (rest ++ more)
text_stays seen [] more rest w h e = let f = text_at_nil seen in cc
text_stays seen (c ∷ cs) more rest w h e =
    elim (text_step seen c h) [
      | stops r p ↦
          let f = p cs in
          let r_is : r ≡ w = cc in
          let rest_is : c ∷ cs ≡ rest = cc in
          p (cs ++ more) ∙ ap (λ z. refused z (c ∷ cs ++ more)) r_is ∙ ap (λ z. refused w (z ++ more)) rest_is
      | ends c_is p ↦ p (cs ++ more) ∙ (line_end_behind-reads seen).stays cs more rest w (sym (p cs) ∙ e)
      | goes t few p ↦ p (cs ++ more) ∙ text_stays (seen ++ c ∷ []) cs more rest w (omega (arith, length-append seen (c ∷ []))) (sym (p cs) ∙ e)
    ]

-- in a line, behind these bytes
abbrev TextFrom : List ℕ → List ℕ → ℕ → Refusal → Type 0
TextFrom seen before c w = InLine (seen ++ before) c w

all_text_push : (ds : List ℕ) (c : ℕ) → AllByRecursion IsLineByte ds → IsLineByte c → AllByRecursion IsLineByte (ds ++ c ∷ [])
all_text_push [] c all g = (g, tt)
all_text_push (x ∷ ds) c all g = (all.0, all_text_push ds c all.1 g)

text_reason : (seen : List ℕ) (c : ℕ) (w : Refusal) → text_at seen (c ∷ []) ≡ refused w (c ∷ []) → InText seen c w
unfolding text_at byte_at
text_reason seen c w e =
    elim (cases_Bool (eqb c 13)) [
      | inl a ↦ let f = rw a at e in cc
      | inr a ↦
          elim (cases_Bool (eqb c 10)) [
            | inl b ↦
                let f = rw (a, b) at e in
                let w_is : BadLineEnd ≡ w = cc in
                subst (λ (z : Refusal). InText seen c z) w_is (line_feed (eqb-true c 10 b))
            | inr b ↦
                elim (cases_Bool (eqb (length seen) max_line)) [
                  | inl g ↦
                      let f = rw (a, b, g) at e in
                      let w_is : TooLong ≡ w = cc in
                      subst (λ (z : Refusal). InText seen c z) w_is (too_long (eqb-false c 13 a, eqb-false c 10 b) (eqb-true (length seen) max_line g))
                  | inr g ↦ let f = rw (a, b, g) at e in cc
                ]
          ]
    ]

text_first : (seen b rest : List ℕ) (w : Refusal) → AllByRecursion IsLineByte seen → length seen ≤ max_line → text_at seen b ≡ refused w rest → IsFirst (TextFrom seen) (text_at seen) b rest w
text_first seen [] rest w all h e = let f = text_at_nil seen in cc
text_first seen (c ∷ cs) rest w all h e =
    elim (text_step seen c h) [
      | stops r p ↦
          let f = p cs in
          let r_is : r ≡ w = cc in
          let rest_is : rest ≡ c ∷ cs = cc in
          let fails : text_at seen (c ∷ []) ≡ refused w (c ∷ []) = p [] ∙ ap (λ z. refused z (c ∷ [])) r_is in
          record {
            before = [];
            byte = c;
            after = cs;
            rest_is = rest_is;
            split = sym rest_is;
            fits = text_at_nil seen;
            fails = fails;
            place = subst (λ (z : List ℕ). InLine z c w) (sym (append-nil seen)) (inl (all, text_reason seen c w fails));
          }
      | ends c_is p ↦
          first_behind (ByteIs 10 (λ _. BadLineEnd)) (TextFrom seen) (text_at seen) (line_end_behind seen) c cs rest w p
          (λ z b (nil, no_lf, w_is). inr (seen, all, ap (λ y. seen ++ y) (ap (λ y. c ∷ y) nil ∙ ap (λ y. y ∷ []) c_is), no_lf, w_is)) ((line_end_behind-reads seen).first cs rest w (sym (p cs) ∙ e))
      | goes t few p ↦
          first_behind (TextFrom (seen ++ c ∷ [])) (TextFrom seen) (text_at seen) (text_at (seen ++ c ∷ [])) c cs rest w p
          (λ z b k. subst (λ (y : List ℕ). InLine y b w) (append_assoc seen (c ∷ []) z) k)
          (text_first (seen ++ c ∷ []) cs rest w (all_text_push seen c all t) (omega (arith, length-append seen (c ∷ []))) (sym (p cs) ∙ e))
    ]

-- a line, and its end
abbrev pub IsTextLine : List ℕ → List ℕ → Type 0
IsTextLine x s = IsLine s × (x ≡ s ++ line_end)

as_text_line : (x s : List ℕ) → IsLineRest [] x s → IsTextLine x s
as_text_line x s w = (record { each = subst (λ (z : List ℕ). AllByRecursion IsLineByte z) (sym w.whole) w.each; few = w.few }, w.is ∙ ap (λ z. z ++ line_end) (sym w.whole))

pub text-reads : IsReader IsTextLine InLine (text_at [])
text-reads = record {
  again = λ x y s g. ap (λ z. text_at [] (z ++ y)) g.1 ∙ text_again [] s y g.0.few g.0.each;
  sound = λ b y s e. let (x, split, line) = text_sound [] b y s (omega arith) e in (x, split, as_text_line x s line);
  opens = λ b e. let (more, s, line) = text_opens [] b (omega arith) e in (more, s, as_text_line (b ++ more) s line);
  stays = λ b more rest w e. text_stays [] b more rest w (omega arith) e;
  first = λ b rest w e. text_first [] b rest w tt (omega arith) e;
}

-- That the functions of specs/Reading.antt read just the texts of whole values.
use Rattle.std.proofs.Common.{◌≡◌, ◌^◌, ℤ, pos, neg_ℤ, ◌+◌, ◌-◌, ◌⊎◌, ◌≤◌, ℕ, zero, suc, ◌<◌, inl, inr, ⊎_elim, List, [], ◌∷◌, ◌++◌, length, replicate, Option, Some, None, refl, sym, ap, ◌∙◌, subst, append_assoc, append-nil, arith}
use Rattle.std.specs.List.{AllByRecursion}
use Rattle.std.proofs.lemmas.List.{length-replicate, length-append}
use Rattle.resp_core.specs.declared.error.Refusal.TheVariants.{BadLength, BadLineEnd}
use Rattle.resp_core.specs.Tree.{Tree, Trees, simple, fault, whole, bulk, null_bulk, list, null_list, no_trees, tree, members, trees_of}
use Rattle.resp_core.specs.Grammar.{max_line, IsLine, IsSigned, IsInteger, number_after, IsDigit, IsLength, max_bulk, IsText, AreTexts}
use Rattle.resp_core.proofs.TreeLemmas.{trees_of-members}
use Rattle.resp_core.proofs.reading.RefusedPlaces.{ByteIs, InNumber, InLine}
use Rattle.resp_core.specs.declared.error.Refusal.{Refusal}
use Rattle.resp_core.specs.Text.{line, line_end}
use Rattle.resp_core.specs.declared.digits.Digits.{Digits}
use Rattle.resp_core.specs.Reading.{Outcome, found, unfinished, and_then, either_at, byte_at, end_at, of_length, of_integer, digits_at, text_at, integer_at, type_refusal, leaf_at, members_at, null_end_at, count_at, bytes_at, payload_at, bulk_at, many_at, list_at, value_at}
use Rattle.resp_core.proofs.reading.GrammarReaderLemmas.{IsReader, ThenPlace, EitherPlace, Nowhere, IsReader-placed, Then, Then-reads, IsReader-same, Pure, Pure-reads, Either, Either-reads}
use Rattle.resp_core.proofs.reading.PartLemmas.{InEnd, from_first, IsByte, byte-reads, IsEnd, end-reads, AreBytes, bytes-reads, AreAllDigits, digits-reads, digits_at_nil, IsTextLine, text-reads}

-- what is left of the -1 of a null
abbrev pub IsNullEnd : List ℕ → Unit {0} → Type 0
IsNullEnd x u = x ≡ 49 ∷ line_end

abbrev pub InNullEnd : List ℕ → ℕ → Refusal → Type 0
InNullEnd = ThenPlace (IsByte 49) (ByteIs 49 (λ _. BadLength)) (λ _. ThenPlace (IsByte 13) (ByteIs 13 (λ _. BadLength)) (λ _. ByteIs 10 (λ _. BadLineEnd)))

null_end-reads : IsReader IsNullEnd InNullEnd null_end_at
unfolding null_end_at
null_end-reads =
    IsReader-same {G = Then (IsByte 49) (λ _. Then (IsByte 13) (λ _. IsByte 10))}
    (λ b u (_, _, end, split, one_is, (_, _, lf, end_split, cr_is, lf_is)).
    let end_is : end ≡ 13 ∷ 10 ∷ [] = end_split ∙ ap (λ z. z ++ lf) cr_is ∙ ap (λ z. 13 ∷ z) lf_is in
    split ∙ ap (λ z. z ++ end) one_is ∙ ap (λ z. 49 ∷ z) end_is)
    (λ b u g. (tt, 49 ∷ [], 13 ∷ 10 ∷ [], g, refl, (tt, 13 ∷ [], 10 ∷ [], refl, refl, refl)))
    (Then-reads (IsByte 49) _ (byte_at 49 (λ _. BadLength)) (byte-reads 49 (λ _. BadLength)) (λ _. Then (IsByte 13) (λ _. IsByte 10)) (λ _. ThenPlace (IsByte 13) (ByteIs 13 (λ _. BadLength)) (λ _. ByteIs 10 (λ _. BadLineEnd))) (λ _ rest. and_then (byte_at 13 (λ _. BadLength) rest) (λ _ rest. byte_at 10 (λ _. BadLineEnd) rest))
    (λ _. Then-reads (IsByte 13) _ (byte_at 13 (λ _. BadLength)) (byte-reads 13 (λ _. BadLength)) (λ _. IsByte 10) (λ _. ByteIs 10 (λ _. BadLineEnd)) (λ _ rest. byte_at 10 (λ _. BadLineEnd) rest) (λ _. byte-reads 10 (λ _. BadLineEnd)) (λ _. (10 ∷ [], tt, refl)))
    (λ _. (13 ∷ 10 ∷ [], tt, (tt, 13 ∷ [], 10 ∷ [], refl, refl, refl))))

-- what a reader finds, under a function
abbrev pub Mapped : {A B : Type 0} → (A → B) → (List ℕ → A → Type 0) → List ℕ → B → Type 0
Mapped {A} f G x c = (a : A) × G x a × (c ≡ f a)

mapped-reads : {A B : Type 0} (f : A → B) (G : List ℕ → A → Type 0) (N : List ℕ → ℕ → Refusal → Type 0) (r : List ℕ → Outcome A) → IsReader G N r → IsReader (Mapped f G) N (λ b. and_then (r b) (λ a rest. found (f a) rest))
mapped-reads f G N r law =
    IsReader-placed (from_first G N) (IsReader-same {G = Then G (λ a. Pure (f a))}
    (λ b c (a, front, _, split, text, (nil, is)). (a, subst (λ (z : List ℕ). G z a) (sym (split ∙ ap (λ z. front ++ z) nil ∙ append-nil front)) text, is))
    (λ b c (a, text, is). (a, b, [], sym (append-nil b), text, (refl, is)))
    (Then-reads G N r law (λ a. Pure (f a)) (λ _. Nowhere) (λ a rest. found (f a) rest) (λ a. Pure-reads (f a)) (λ a. ([], f a, (refl, refl)))))

-- a length, from its first digit on
abbrev pub IsLengthLine : ℕ → List ℕ → ℕ → Type 0
IsLengthLine limit x n = (digits : List ℕ) × IsLength limit digits n × (x ≡ digits ++ line_end)

length-reads : (limit : ℕ) → IsReader (IsLengthLine limit) (InNumber (of_length limit)) (digits_at (of_length limit) 0 0)
length-reads limit =
    IsReader-same {G = AreAllDigits (of_length limit)}
    (λ b n g. (g.digits, record { some = g.some; few = g.few; each = g.each; value = g.value; within = g.within }, g.is))
    (λ b n (digits, number, is). record { digits = digits; is = is; some = number.some; few = number.few; each = number.each; value = number.value; within = number.within })
    (digits-reads (of_length limit) (omega arith))

-- a length, or the -1 of a null
abbrev pub null_count : Unit {0} → Option ℕ
null_count u = None

abbrev pub IsCountOf : ℕ → List ℕ → Option ℕ → Type 0
IsCountOf limit = Either 45 (Mapped null_count IsNullEnd) (Mapped (λ n. Some n) (IsLengthLine limit))

no_minus : (limit n : ℕ) (x : List ℕ) → IsLengthLine limit (45 ∷ x) n → ⊥
no_minus limit n x (digits, number, is) = first_digit digits number.some number.each is
  where
    first_digit : (ds : List ℕ) → 0 < length ds → AllByRecursion IsDigit ds → 45 ∷ x ≡ ds ++ line_end → ⊥
    first_digit [] s e f = omega arith
    first_digit (d ∷ ds) s e f = let d_is : 45 ≡ d = cc in omega (arith, e.0.0)

no_nil : (limit n : ℕ) → IsLengthLine limit [] n → ⊥
no_nil limit n (digits, number, is) = first_digit digits number.some is
  where
    first_digit : (ds : List ℕ) → 0 < length ds → [] ≡ ds ++ line_end → ⊥
    first_digit [] s f = omega arith
    first_digit (d ∷ ds) s f = cc

abbrev pub InCount : ℕ → List ℕ → ℕ → Refusal → Type 0
InCount limit = EitherPlace 45 InNullEnd (InNumber (of_length limit))

pub count-reads : (limit : ℕ) → IsReader (IsCountOf limit) (InCount limit) (count_at limit)
unfolding count_at
count-reads limit =
    Either-reads 45 (Mapped null_count IsNullEnd) InNullEnd (λ cs. and_then (null_end_at cs) (λ _ rest. found None rest)) (mapped-reads null_count IsNullEnd InNullEnd null_end_at null_end-reads)
    (Mapped (λ n. Some n) (IsLengthLine limit)) (InNumber (of_length limit)) (λ cs. and_then (digits_at (of_length limit) 0 0 cs) (λ n rest. found (Some n) rest)) (mapped-reads (λ n. Some n) (IsLengthLine limit) (InNumber (of_length limit)) (digits_at (of_length limit) 0 0) (length-reads limit))
    (λ x o g. no_minus limit g.0 x g.1) (λ o g. no_nil limit g.0 g.1) (ap (λ z. and_then z (λ n rest. found (Some n) rest)) (digits_at_nil (of_length limit) 0 0))

-- what follows the length of a bulk, or nothing behind the -1
abbrev pub IsPayload : Option ℕ → List ℕ → Tree → Type 0
IsPayload None x t = Pure null_bulk x t
IsPayload (Some n) x t = Then (AreBytes n) (λ s. Mapped (λ (u : Unit {0}). bulk s) IsEnd) x t

abbrev pub InPayload : Option ℕ → List ℕ → ℕ → Refusal → Type 0
InPayload None before c w = ⊥
InPayload (Some n) before c w = ThenPlace (AreBytes n) Nowhere (λ s. InEnd) before c w

pub payload-reads : (o : Option ℕ) → IsReader (IsPayload o) (InPayload o) (payload_at o)
unfolding payload_at
payload-reads None = Pure-reads null_bulk
payload-reads (Some n) =
    Then-reads (AreBytes n) Nowhere (bytes_at n) (bytes-reads n) (λ s. Mapped (λ u. bulk s) IsEnd) (λ s. InEnd) (λ s rest. and_then (end_at rest) (λ _ rest. found (bulk s) rest))
    (λ s. mapped-reads (λ u. bulk s) IsEnd InEnd end_at end-reads) (λ s. (line_end, bulk s, (tt, refl, refl)))

some_payload : (o : Option ℕ) → (x : List ℕ) × (t : Tree) × IsPayload o x t
some_payload None = ([], null_bulk, (refl, refl))
some_payload (Some n) = (replicate n 0 ++ line_end, bulk (replicate n 0), (replicate n 0, replicate n 0, line_end, refl, (refl, length-replicate {A = ℕ} n 0), (tt, refl, refl)))

-- a bulk or a null, behind its type byte
abbrev pub IsBulk : List ℕ → Tree → Type 0
IsBulk = Then (IsCountOf max_bulk) IsPayload

abbrev pub InBulk : List ℕ → ℕ → Refusal → Type 0
InBulk = ThenPlace (IsCountOf max_bulk) (InCount max_bulk) InPayload

pub bulk-reads : IsReader IsBulk InBulk bulk_at
unfolding bulk_at
bulk-reads = Then-reads (IsCountOf max_bulk) (InCount max_bulk) (count_at max_bulk) (count-reads max_bulk) IsPayload InPayload payload_at payload-reads some_payload

-- so many, one after the other
abbrev pub AreMany : {A : Type 0} → (List ℕ → A → Type 0) → ℕ → List ℕ → List A → Type 0
AreMany G zero x ts = Pure [] x ts
AreMany G (suc n) x ts = Then G (λ a. Mapped (λ others. a ∷ others) (AreMany G n)) x ts

abbrev pub InMany : {A : Type 0} → (List ℕ → A → Type 0) → (List ℕ → ℕ → Refusal → Type 0) → ℕ → List ℕ → ℕ → Refusal → Type 0
InMany G N zero before c w = ⊥
InMany G N (suc n) before c w = ThenPlace G N (λ _. InMany G N n) before c w

pub many-reads : {A : Type 0} (G : List ℕ → A → Type 0) (N : List ℕ → ℕ → Refusal → Type 0) (read : List ℕ → Outcome A) → IsReader G N read → ((n : ℕ) → (x : List ℕ) × (ts : List A) × AreMany G n x ts) → (n : ℕ) → IsReader (AreMany G n) (InMany G N n) (many_at read n)
unfolding many_at
many-reads G N read law some zero = Pure-reads []
many-reads G N read law some (suc n) =
    Then-reads G N read law (λ a. Mapped (λ others. a ∷ others) (AreMany G n)) (λ _. InMany G N n) (λ a rest. and_then (many_at read n rest) (λ others rest. found (a ∷ others) rest))
    (λ a. mapped-reads (λ others. a ∷ others) (AreMany G n) (InMany G N n) (many_at read n) (many-reads G N read law some n))
    (λ a. let (x, others, texts) = some n in (x, a ∷ others, (others, texts, refl)))

-- from the parts of a bulk to its text, and back
null_text : (x a b : List ℕ) → x ≡ a ++ b → a ≡ 45 ∷ 49 ∷ line_end → b ≡ [] → 36 ∷ x ≡ line 36 (45 ∷ 49 ∷ [])
null_text x a b h e f = ap (λ z. 36 ∷ z) (h ∙ ap (λ z. z ++ b) e ∙ ap (λ z. 45 ∷ 49 ∷ 13 ∷ 10 ∷ z) f)

payload_text : (x a b ds s c d : List ℕ) → x ≡ a ++ b → a ≡ ds ++ line_end → b ≡ c ++ d → c ≡ s → d ≡ line_end → 36 ∷ x ≡ line 36 ds ++ s ++ line_end
payload_text x a b ds s c d e f g h k =
    let l : b ≡ s ++ line_end = g ∙ ap (λ z. z ++ d) h ∙ ap (λ z. s ++ z) k in
    ap (λ z. 36 ∷ z) (e ∙ ap (λ z. z ++ b) f ∙ ap (λ z. (ds ++ line_end) ++ z) l ∙ sym (append_assoc (ds ++ line_end) s line_end))

bulk_parts_text : (most left : ℕ) (x : List ℕ) (t : Tree) (o : Option ℕ) (a b : List ℕ) → x ≡ a ++ b → IsCountOf max_bulk a o → IsPayload o b t → IsText most left (36 ∷ x) t
bulk_parts_text most left x t None a b e (inl (z, f, (u, h, k))) p =
    subst (λ (w : Tree). IsText most left (36 ∷ x) w) (sym p.1) (null_text x a b e (f ∙ ap (λ z. 45 ∷ z) h) p.0)
bulk_parts_text most left x t None a b e (inr (n, f, k)) p = cc
bulk_parts_text most left x t (Some n) a b e (inl (z, f, (u, h, k))) p = cc
bulk_parts_text most left x t (Some n) a b e (inr (m, (digits, number, is), k)) (s, front, back, split, (s_is, len), (_, back_is, t_is)) =
    let n_is : n ≡ m = cc in
    let fits : IsLength max_bulk digits (length s) = subst (λ (w : ℕ). IsLength max_bulk digits w) (sym (len ∙ n_is)) number in
    subst (λ (w : Tree). IsText most left (36 ∷ x) w) (sym t_is) (digits, fits, payload_text x a b digits s front back e is split s_is back_is)

bulk_text : (most left : ℕ) (x : List ℕ) (t : Tree) → IsBulk x t → IsText most left (36 ∷ x) t
bulk_text most left x t (o, front, back, split, count, payload) = bulk_parts_text most left x t o front back split count payload

null_is_bulk : IsBulk (45 ∷ 49 ∷ line_end) null_bulk
null_is_bulk = (None, 45 ∷ 49 ∷ line_end, [], refl, inl (49 ∷ line_end, refl, (tt, refl, refl)), (refl, refl))

bulk_is_bulk : (s ds : List ℕ) → IsLength max_bulk ds (length s) → IsBulk (((ds ++ line_end) ++ s) ++ line_end) (bulk s)
bulk_is_bulk s ds f =
    (Some (length s), ds ++ line_end, s ++ line_end, append_assoc (ds ++ line_end) s line_end, inr (length s, (ds, f, refl), refl), (s, s, line_end, refl, (refl, refl), (tt, refl, refl)))

-- members: as many as there are, and back
many_texts : (most left n : ℕ) (x : List ℕ) (ts : List Tree) → AreMany (IsText most left) n x ts → AreTexts most left x (trees_of ts) × (length (members (trees_of ts)) ≡ n)
many_texts most left zero x ts g =
    subst (λ (w : List Tree). AreTexts most left x (trees_of w) × (length (members (trees_of w)) ≡ 0)) (sym g.1) (g.0, refl)
many_texts most left (suc n) x ts (t, front, back, split, text, (others, many, is)) =
    let (texts, len) = many_texts most left n back others many in
    subst (λ (w : List Tree). AreTexts most left x (trees_of w) × (length (members (trees_of w)) ≡ suc n)) (sym is) ((front, back, split, text, texts), ap suc len)

texts_many : (most left : ℕ) (x : List ℕ) (ts : Trees) → AreTexts most left x ts → AreMany (IsText most left) (length (members ts)) x (members ts)
texts_many most left x no_trees g = (g, refl)
texts_many most left x (tree t ts) (front, back, split, text, texts) = (t, front, back, split, text, (members ts, texts_many most left back ts texts, refl))

-- as many nulls
some_texts : (most left n : ℕ) → (x : List ℕ) × (ts : List Tree) × AreMany (IsText most left) n x ts
some_texts most left zero = ([], [], (refl, refl))
some_texts most left (suc n) =
    let (x, ts, texts) = some_texts most left n in
    (line 36 (45 ∷ 49 ∷ []) ++ x, null_bulk ∷ ts, (null_bulk, line 36 (45 ∷ 49 ∷ []), x, refl, refl, (ts, texts, refl)))

-- a list or a null list, behind its type byte
abbrev pub IsMembers : ℕ → ℕ → Option ℕ → List ℕ → Tree → Type 0
IsMembers most left None x t = Pure null_list x t
IsMembers most left (Some n) x t = Mapped (λ ts. list (trees_of ts)) (AreMany (IsText most left) n) x t

abbrev pub IsListOf : ℕ → ℕ → List ℕ → Tree → Type 0
IsListOf most left = Then (IsCountOf most) (IsMembers most left)

null_list_text : (x a b : List ℕ) → x ≡ a ++ b → a ≡ 45 ∷ 49 ∷ line_end → b ≡ [] → 42 ∷ x ≡ line 42 (45 ∷ 49 ∷ [])
null_list_text x a b h e f = ap (λ z. 42 ∷ z) (h ∙ ap (λ z. z ++ b) e ∙ ap (λ z. 45 ∷ 49 ∷ 13 ∷ 10 ∷ z) f)

list_parts_text : (most left : ℕ) (x : List ℕ) (t : Tree) (o : Option ℕ) (a b : List ℕ) → x ≡ a ++ b → IsCountOf most a o → IsMembers most left o b t → IsText most (suc left) (42 ∷ x) t
list_parts_text most left x t None a b e (inl (z, f, (u, h, k))) p =
    subst (λ (w : Tree). IsText most (suc left) (42 ∷ x) w) (sym p.1) (null_list_text x a b e (f ∙ ap (λ z. 45 ∷ z) h) p.0)
list_parts_text most left x t None a b e (inr (n, f, k)) p = cc
list_parts_text most left x t (Some n) a b e (inl (z, f, (u, h, k))) p = cc
list_parts_text most left x t (Some n) a b e (inr (m, (digits, number, is), k)) (ts, many, t_is) =
    let n_is : n ≡ m = cc in
    let (texts, len) = many_texts most left n b ts many in
    let fits : IsLength most digits (length (members (trees_of ts))) = subst (λ (w : ℕ). IsLength most digits w) (sym (len ∙ n_is)) number in
    let split : 42 ∷ x ≡ line 42 digits ++ b = ap (λ z. 42 ∷ z) (e ∙ ap (λ z. z ++ b) is) in
    subst (λ (w : Tree). IsText most (suc left) (42 ∷ x) w) (sym t_is) (digits, b, fits, split, texts)

list_text : (most left : ℕ) (x : List ℕ) (t : Tree) → IsListOf most left x t → IsText most (suc left) (42 ∷ x) t
list_text most left x t (o, front, back, split, count, inside) = list_parts_text most left x t o front back split count inside

null_is_list : (most left : ℕ) → IsListOf most left (45 ∷ 49 ∷ line_end) null_list
null_is_list most left = (None, 45 ∷ 49 ∷ line_end, [], refl, inl (49 ∷ line_end, refl, (tt, refl, refl)), (refl, refl))

list_is_list : (most left : ℕ) (ts : Trees) (ds rest : List ℕ) → IsLength most ds (length (members ts)) → AreTexts most left rest ts → IsListOf most left ((ds ++ line_end) ++ rest) (list ts)
list_is_list most left ts ds rest f g =
    (Some (length (members ts)), ds ++ line_end, rest, refl, inr (length (members ts), (ds, f, refl), refl), (members ts, texts_many most left rest ts g, ap list (sym (trees_of-members ts))))

-- a whole number, behind its type byte
abbrev PlusDigits : List ℕ → ℤ → Type 0
PlusDigits = Mapped (λ n. pos n) (AreAllDigits (of_integer (2 ^ 63 - 1) (max_line - 1)))

abbrev MinusDigits : List ℕ → ℤ → Type 0
MinusDigits = Mapped (λ n. neg_ℤ (pos n)) (AreAllDigits (of_integer (2 ^ 63) (max_line - 1)))

abbrev PlainDigits : List ℕ → ℤ → Type 0
PlainDigits = Mapped (λ n. pos n) (AreAllDigits (of_integer (2 ^ 63 - 1) max_line))

abbrev IsSignedDigits : List ℕ → ℤ → Type 0
IsSignedDigits = Either 43 PlusDigits (Either 45 MinusDigits PlainDigits)

abbrev pub IsIntegerLine : List ℕ → ℤ → Type 0
IsIntegerLine x n = (bytes : List ℕ) × IsInteger bytes n × (x ≡ bytes ++ line_end)

-- digits begin with a digit
no_digits : (d : Digits) (c m : ℕ) (x : List ℕ) → (48 ≤ c → ⊥) → AreAllDigits d (c ∷ x) m → ⊥
no_digits d c m x low g = first_digit g.digits g.some g.each g.is
  where
    first_digit : (ds : List ℕ) → 0 < length ds → AllByRecursion IsDigit ds → c ∷ x ≡ ds ++ line_end → ⊥
    first_digit [] s e f = omega arith
    first_digit (b ∷ ds) s e f = let c_is : c ≡ b = cc in low (omega (arith, e.0.0, c_is))

no_digits_nil : (d : Digits) (m : ℕ) → AreAllDigits d [] m → ⊥
no_digits_nil d m g = first_digit g.digits g.some g.is
  where
    first_digit : (ds : List ℕ) → 0 < length ds → [] ≡ ds ++ line_end → ⊥
    first_digit [] s f = omega arith
    first_digit (b ∷ ds) s f = cc

digits_wait : {A : Type 0} (d : Digits) (f : ℕ → List ℕ → Outcome A) → and_then (digits_at d 0 0 []) f ≡ unfinished
digits_wait d f = ap (λ z. and_then z f) (digits_at_nil d 0 0)

signed_integer : (x : List ℕ) (n : ℤ) → IsSignedDigits x n → IsIntegerLine x n
signed_integer x n (inl (z, e, (m, g, k))) =
    (43 ∷ g.digits, record { sign = 43 ∷ []; digits = g.digits; is = refl; some = g.some; few = omega (arith, g.few); each = g.each; value = inl (inr refl, omega (arith, g.value, g.within), k ∙ ap pos (sym g.value)) }, e ∙ ap (λ w. 43 ∷ w) g.is)
signed_integer x n (inr (inl (z, e, (m, g, k)))) =
    (45 ∷ g.digits, record { sign = 45 ∷ []; digits = g.digits; is = refl; some = g.some; few = omega (arith, g.few); each = g.each; value = inr (refl, omega (arith, g.value, g.within), k ∙ ap (λ w. neg_ℤ (pos w)) (sym g.value)) }, e ∙ ap (λ w. 45 ∷ w) g.is)
signed_integer x n (inr (inr (m, g, k))) =
    (g.digits, record { sign = []; digits = g.digits; is = refl; some = g.some; few = g.few; each = g.each; value = inl (inl refl, omega (arith, g.value, g.within), k ∙ ap pos (sym g.value)) }, g.is)

integer_signed : (x : List ℕ) (n : ℤ) → IsIntegerLine x n → IsSignedDigits x n
integer_signed x n (bytes, g, e) = by_sign g.value
  where
    whole : (s : List ℕ) → g.sign ≡ s → x ≡ (s ++ g.digits) ++ line_end
    whole s f = e ∙ ap (λ w. w ++ line_end) (g.is ∙ ap (λ w. w ++ g.digits) f)

    room : (s : List ℕ) → g.sign ≡ s → length s + length g.digits ≤ max_line
    room s f = omega (arith, g.few, ap length g.is, length-append g.sign g.digits, ap length f)

    by_sign : IsSigned g.sign (number_after 0 g.digits) n → IsSignedDigits x n
    by_sign (inl (inl f, h, k)) = inr (inr (number_after 0 g.digits, record { digits = g.digits; is = whole [] f; some = g.some; few = omega (arith, room [] f); each = g.each; value = refl; within = omega arith }, k))
    by_sign (inl (inr f, h, k)) = inl (g.digits ++ line_end, whole (43 ∷ []) f, (number_after 0 g.digits, record { digits = g.digits; is = refl; some = g.some; few = omega (arith, room (43 ∷ []) f); each = g.each; value = refl; within = omega arith }, k))
    by_sign (inr (f, h, k)) = inr (inl (g.digits ++ line_end, whole (45 ∷ []) f, (number_after 0 g.digits, record { digits = g.digits; is = refl; some = g.some; few = omega (arith, room (45 ∷ []) f); each = g.each; value = refl; within = omega arith }, k)))

abbrev pub InInteger : List ℕ → ℕ → Refusal → Type 0
InInteger = EitherPlace 43 (InNumber (of_integer (2 ^ 63 - 1) (max_line - 1))) (EitherPlace 45 (InNumber (of_integer (2 ^ 63) (max_line - 1))) (InNumber (of_integer (2 ^ 63 - 1) max_line)))

integer-reads : IsReader IsIntegerLine InInteger integer_at
unfolding integer_at
integer-reads =
    IsReader-same {G = IsSignedDigits} signed_integer integer_signed
    (Either-reads 43 PlusDigits (InNumber (of_integer (2 ^ 63 - 1) (max_line - 1))) (λ cs. and_then (digits_at (of_integer (2 ^ 63 - 1) (max_line - 1)) 0 0 cs) (λ n rest. found (pos n) rest))
    (mapped-reads (λ n. pos n) (AreAllDigits (of_integer (2 ^ 63 - 1) (max_line - 1))) (InNumber (of_integer (2 ^ 63 - 1) (max_line - 1))) (digits_at (of_integer (2 ^ 63 - 1) (max_line - 1)) 0 0) (digits-reads (of_integer (2 ^ 63 - 1) (max_line - 1)) (omega arith)))
    (Either 45 MinusDigits PlainDigits) (EitherPlace 45 (InNumber (of_integer (2 ^ 63) (max_line - 1))) (InNumber (of_integer (2 ^ 63 - 1) max_line)))
    (either_at 45 (λ cs. and_then (digits_at (of_integer (2 ^ 63) (max_line - 1)) 0 0 cs) (λ n rest. found (neg_ℤ (pos n)) rest)) (λ cs. and_then (digits_at (of_integer (2 ^ 63 - 1) max_line) 0 0 cs) (λ n rest. found (pos n) rest)))
    (Either-reads 45 MinusDigits (InNumber (of_integer (2 ^ 63) (max_line - 1))) (λ cs. and_then (digits_at (of_integer (2 ^ 63) (max_line - 1)) 0 0 cs) (λ n rest. found (neg_ℤ (pos n)) rest))
    (mapped-reads (λ n. neg_ℤ (pos n)) (AreAllDigits (of_integer (2 ^ 63) (max_line - 1))) (InNumber (of_integer (2 ^ 63) (max_line - 1))) (digits_at (of_integer (2 ^ 63) (max_line - 1)) 0 0) (digits-reads (of_integer (2 ^ 63) (max_line - 1)) (omega arith)))
    PlainDigits (InNumber (of_integer (2 ^ 63 - 1) max_line)) (λ cs. and_then (digits_at (of_integer (2 ^ 63 - 1) max_line) 0 0 cs) (λ n rest. found (pos n) rest))
    (mapped-reads (λ n. pos n) (AreAllDigits (of_integer (2 ^ 63 - 1) max_line)) (InNumber (of_integer (2 ^ 63 - 1) max_line)) (digits_at (of_integer (2 ^ 63 - 1) max_line) 0 0) (digits-reads (of_integer (2 ^ 63 - 1) max_line) (omega arith)))
    (λ x n g. no_digits (of_integer (2 ^ 63 - 1) max_line) 45 g.0 x (λ l. omega arith) g.1) (λ n g. no_digits_nil (of_integer (2 ^ 63 - 1) max_line) g.0 g.1)
    (digits_wait (of_integer (2 ^ 63 - 1) max_line) (λ n rest. found (pos n) rest)))
    no_plus no_sign_nil (digits_wait (of_integer (2 ^ 63 - 1) max_line) (λ n rest. found (pos n) rest)))
  where
    no_plus : (x : List ℕ) (n : ℤ) → Either 45 MinusDigits PlainDigits (43 ∷ x) n → ⊥
    no_plus x n (inl (z, e, g)) = let f : ◌≡◌ {A = ℕ} 43 45 = cc in omega (arith, f)
    no_plus x n (inr (m, g, k)) = no_digits (of_integer (2 ^ 63 - 1) max_line) 43 m x (λ l. omega arith) g

    no_sign_nil : (n : ℤ) → Either 45 MinusDigits PlainDigits [] n → ⊥
    no_sign_nil n (inl (z, e, g)) = cc
    no_sign_nil n (inr (m, g, k)) = no_digits_nil (of_integer (2 ^ 63 - 1) max_line) m g

-- a value that is no list
abbrev IsOther : List ℕ → Tree → Type 0
IsOther = Then (IsByte 58) (λ _. Mapped whole IsIntegerLine)

abbrev IsFaultOr : List ℕ → Tree → Type 0
IsFaultOr = Either 45 (Mapped fault IsTextLine) IsOther

abbrev IsSimpleOr : List ℕ → Tree → Type 0
IsSimpleOr = Either 43 (Mapped simple IsTextLine) IsFaultOr

abbrev IsLeaf : List ℕ → Tree → Type 0
IsLeaf = Either 36 IsBulk IsSimpleOr

whole_at : List ℕ → Outcome Tree
whole_at = λ cs. and_then (byte_at 58 type_refusal cs) (λ _ rest. and_then (integer_at rest) (λ n rest. found (whole n) rest))

abbrev pub InOther : List ℕ → ℕ → Refusal → Type 0
InOther = ThenPlace (IsByte 58) (ByteIs 58 type_refusal) (λ _. InInteger)

other-reads : IsReader IsOther InOther (λ cs. and_then (byte_at 58 type_refusal cs) (λ _ rest. and_then (integer_at rest) (λ n rest. found (whole n) rest)))
other-reads =
    Then-reads (IsByte 58) (ByteIs 58 type_refusal) (byte_at 58 type_refusal) (byte-reads 58 type_refusal) (λ _. Mapped whole IsIntegerLine) (λ _. InInteger) (λ _ rest. and_then (integer_at rest) (λ n rest. found (whole n) rest))
    (λ _. mapped-reads whole IsIntegerLine InInteger integer_at integer-reads)
    (λ _. (48 ∷ line_end, whole (pos 0), (pos 0, (48 ∷ [], record { sign = []; digits = 48 ∷ []; is = refl; some = omega arith; few = omega arith; each = ((omega arith, omega arith), tt); value = inl (inl refl, omega arith, refl) }, refl), refl)))

other_waits : and_then (byte_at 58 type_refusal []) (λ _ rest. and_then (integer_at rest) (λ n rest. found (whole n) rest)) ≡ unfinished
unfolding byte_at
other_waits = refl

-- a text of no list begins with its type byte
other_type : (c : ℕ) (x : List ℕ) (t : Tree) → IsOther (c ∷ x) t → c ≡ 58
other_type c x t (_, _, back, split, is, _) = let e : c ∷ x ≡ 58 ∷ back = split ∙ ap (λ z. z ++ back) is in cc

no_other_nil : (t : Tree) → IsOther [] t → ⊥
no_other_nil t (_, _, back, split, is, _) = let e : [] ≡ 58 ∷ back = split ∙ ap (λ z. z ++ back) is in cc

fault_type : (c : ℕ) (x : List ℕ) (t : Tree) → IsFaultOr (c ∷ x) t → (c ≡ 45) ⊎ (c ≡ 58)
fault_type c x t (inl (z, e, g)) = inl (let f : c ≡ 45 = cc in f)
fault_type c x t (inr g) = inr (other_type c x t g)

no_fault_nil : (t : Tree) → IsFaultOr [] t → ⊥
no_fault_nil t (inl (z, e, g)) = cc
no_fault_nil t (inr g) = no_other_nil t g

simple_type : (c : ℕ) (x : List ℕ) (t : Tree) → IsSimpleOr (c ∷ x) t → (c ≡ 43) ⊎ ((c ≡ 45) ⊎ (c ≡ 58))
simple_type c x t (inl (z, e, g)) = inl (let f : c ≡ 43 = cc in f)
simple_type c x t (inr g) = inr (fault_type c x t g)

no_simple_nil : (t : Tree) → IsSimpleOr [] t → ⊥
no_simple_nil t (inl (z, e, g)) = cc
no_simple_nil t (inr g) = no_fault_nil t g

no_leaf_nil : (t : Tree) → IsLeaf [] t → ⊥
no_leaf_nil t (inl (z, e, g)) = cc
no_leaf_nil t (inr g) = no_simple_nil t g

not_other : (x : List ℕ) (t : Tree) → IsOther (45 ∷ x) t → ⊥
not_other x t g = let e = other_type 45 x t g in omega (arith, e)

not_fault : (x : List ℕ) (t : Tree) → IsFaultOr (43 ∷ x) t → ⊥
not_fault x t g = ⊎_elim (λ e. omega (arith, e)) (λ e. omega (arith, e)) (fault_type 43 x t g)

not_simple : (x : List ℕ) (t : Tree) → IsSimpleOr (36 ∷ x) t → ⊥
not_simple x t g = ⊎_elim (λ e. omega (arith, e)) (⊎_elim (λ e. omega (arith, e)) (λ e. omega (arith, e))) (simple_type 36 x t g)

not_leaf : (x : List ℕ) (t : Tree) → IsLeaf (42 ∷ x) t → ⊥
not_leaf x t (inl (z, e, g)) = let f : ◌≡◌ {A = ℕ} 42 36 = cc in omega (arith, f)
not_leaf x t (inr g) = ⊎_elim (λ e. omega (arith, e)) (⊎_elim (λ e. omega (arith, e)) (λ e. omega (arith, e))) (simple_type 42 x t g)

abbrev pub InLeaf : List ℕ → ℕ → Refusal → Type 0
InLeaf = EitherPlace 36 InBulk (EitherPlace 43 InLine (EitherPlace 45 InLine InOther))

leaf-reads : IsReader IsLeaf InLeaf leaf_at
unfolding leaf_at
leaf-reads =
    Either-reads 36 IsBulk InBulk bulk_at bulk-reads IsSimpleOr (EitherPlace 43 InLine (EitherPlace 45 InLine InOther))
    (either_at 43 (λ cs. and_then (text_at [] cs) (λ s rest. found (simple s) rest))
    (either_at 45 (λ cs. and_then (text_at [] cs) (λ s rest. found (fault s) rest)) (λ cs. and_then (byte_at 58 type_refusal cs) (λ _ rest. and_then (integer_at rest) (λ n rest. found (whole n) rest)))))
    (Either-reads 43 (Mapped simple IsTextLine) InLine (λ cs. and_then (text_at [] cs) (λ s rest. found (simple s) rest)) (mapped-reads simple IsTextLine InLine (text_at []) text-reads) IsFaultOr (EitherPlace 45 InLine InOther)
    (either_at 45 (λ cs. and_then (text_at [] cs) (λ s rest. found (fault s) rest)) (λ cs. and_then (byte_at 58 type_refusal cs) (λ _ rest. and_then (integer_at rest) (λ n rest. found (whole n) rest))))
    (Either-reads 45 (Mapped fault IsTextLine) InLine (λ cs. and_then (text_at [] cs) (λ s rest. found (fault s) rest)) (mapped-reads fault IsTextLine InLine (text_at []) text-reads) IsOther InOther
    (λ cs. and_then (byte_at 58 type_refusal cs) (λ _ rest. and_then (integer_at rest) (λ n rest. found (whole n) rest))) other-reads not_other no_other_nil other_waits)
    not_fault no_fault_nil other_waits)
    not_simple no_simple_nil other_waits

-- a text of no list, said by its parts, and back
line_text : (k : ℕ) (b z x : List ℕ) → b ≡ k ∷ z → z ≡ x ++ line_end → b ≡ line k x
line_text k b z x e f = e ∙ ap (λ w. k ∷ w) f

leaf_text : (most left : ℕ) (b : List ℕ) (t : Tree) → IsLeaf b t → IsText most left b t
leaf_text most left b t (inl (z, e, g)) = subst (λ (w : List ℕ). IsText most left w t) (sym e) (bulk_text most left z t g)
leaf_text most left b t (inr (inl (z, e, (s, g, k)))) = subst (λ (w : Tree). IsText most left b w) (sym k) (g.0, line_text 43 b z s e g.1)
leaf_text most left b t (inr (inr (inl (z, e, (s, g, k))))) = subst (λ (w : Tree). IsText most left b w) (sym k) (g.0, line_text 45 b z s e g.1)
leaf_text most left b t (inr (inr (inr (u, x, y, e, f, (n, (bytes, number, is), k))))) = subst (λ (w : Tree). IsText most left b w) (sym k) (bytes, number, e ∙ ap (λ w. w ++ y) f ∙ ap (λ w. 58 ∷ w) is)

simple_is_leaf : (b s : List ℕ) → IsLine s → b ≡ line 43 s → IsLeaf b (simple s)
simple_is_leaf b s g e = inr (inl (s ++ line_end, e, (s, (g, refl), refl)))

fault_is_leaf : (b s : List ℕ) → IsLine s → b ≡ line 45 s → IsLeaf b (fault s)
fault_is_leaf b s g e = inr (inr (inl (s ++ line_end, e, (s, (g, refl), refl))))

whole_is_leaf : (b s : List ℕ) (n : ℤ) → IsInteger s n → b ≡ line 58 s → IsLeaf b (whole n)
whole_is_leaf b s n g e = inr (inr (inr (tt, 58 ∷ [], s ++ line_end, e, refl, (n, (s, g, refl), refl))))

bulk_is_leaf : (b ds s : List ℕ) → IsLength max_bulk ds (length s) → b ≡ line 36 ds ++ s ++ line_end → IsLeaf b (bulk s)
bulk_is_leaf b ds s g e = inl (((ds ++ line_end) ++ s) ++ line_end, e, bulk_is_bulk s ds g)

text_leaf : (most : ℕ) (b : List ℕ) (t : Tree) → IsText most zero b t → IsLeaf b t
text_leaf most b (simple s) g = simple_is_leaf b s g.0 g.1
text_leaf most b (fault s) g = fault_is_leaf b s g.0 g.1
text_leaf most b (whole n) (bytes, number, is) = whole_is_leaf b bytes n number is
text_leaf most b (bulk s) (digits, len, is) = bulk_is_leaf b digits s len is
text_leaf most b null_bulk g = inl (45 ∷ 49 ∷ line_end, g, null_is_bulk)
text_leaf most b (list ts) g = absurd g
text_leaf most b null_list g = absurd g

abbrev IsValue : ℕ → ℕ → List ℕ → Tree → Type 0
IsValue most left = Either 42 (IsListOf most left) IsLeaf

value_text : (most left : ℕ) (b : List ℕ) (t : Tree) → IsValue most left b t → IsText most (suc left) b t
value_text most left b t (inl (z, e, g)) = subst (λ (w : List ℕ). IsText most (suc left) w t) (sym e) (list_text most left z t g)
value_text most left b t (inr g) = leaf_text most (suc left) b t g

text_value : (most left : ℕ) (b : List ℕ) (t : Tree) → IsText most (suc left) b t → IsValue most left b t
text_value most left b (simple s) g = inr (simple_is_leaf b s g.0 g.1)
text_value most left b (fault s) g = inr (fault_is_leaf b s g.0 g.1)
text_value most left b (whole n) (bytes, number, is) = inr (whole_is_leaf b bytes n number is)
text_value most left b (bulk s) (digits, len, is) = inr (bulk_is_leaf b digits s len is)
text_value most left b null_bulk g = inr (inl (45 ∷ 49 ∷ line_end, g, null_is_bulk))
text_value most left b (list ts) (digits, rest, len, is, texts) = inl ((digits ++ line_end) ++ rest, is, list_is_list most left ts digits rest len texts)
text_value most left b null_list g = inl (45 ∷ 49 ∷ line_end, g, null_is_list most left)

abbrev pub InMembers : ℕ → ℕ → (List ℕ → ℕ → Refusal → Type 0) → Option ℕ → List ℕ → ℕ → Refusal → Type 0
InMembers most left N None before c w = ⊥
InMembers most left N (Some n) before c w = InMany (IsText most left) N n before c w

-- how a byte of a value is refused
abbrev pub InValue : ℕ → ℕ → List ℕ → ℕ → Refusal → Type 0
InValue most zero before c w = InLeaf before c w
InValue most (suc left) before c w = EitherPlace 42 (ThenPlace (IsCountOf most) (InCount most) (InMembers most left (InValue most left))) InLeaf before c w

members-reads : (most left : ℕ) → IsReader (IsText most left) (InValue most left) (value_at most left) → (o : Option ℕ) → IsReader (IsMembers most left o) (InMembers most left (InValue most left) o) (members_at (value_at most left) o)
unfolding members_at
members-reads most left law None = Pure-reads null_list
members-reads most left law (Some n) =
    mapped-reads (λ ts. list (trees_of ts)) (AreMany (IsText most left) n) (InMany (IsText most left) (InValue most left) n) (many_at (value_at most left) n) (many-reads (IsText most left) (InValue most left) (value_at most left) law (some_texts most left) n)

some_members : (most left : ℕ) → (o : Option ℕ) → (x : List ℕ) × (t : Tree) × IsMembers most left o x t
some_members most left None = ([], null_list, (refl, refl))
some_members most left (Some n) = let (x, ts, texts) = some_texts most left n in (x, list (trees_of ts), (ts, texts, refl))

list-reads : (most left : ℕ) → IsReader (IsText most left) (InValue most left) (value_at most left) → IsReader (IsListOf most left) (ThenPlace (IsCountOf most) (InCount most) (InMembers most left (InValue most left))) (list_at (value_at most left) most)
unfolding list_at
list-reads most left law =
    Then-reads (IsCountOf most) (InCount most) (count_at most) (count-reads most) (IsMembers most left) (InMembers most left (InValue most left)) (members_at (value_at most left)) (members-reads most left law) (some_members most left)

leaf_waits : leaf_at [] ≡ unfinished
unfolding leaf_at byte_at
leaf_waits = refl

pub value-reads : (most left : ℕ) → IsReader (IsText most left) (InValue most left) (value_at most left)
unfolding value_at
value-reads most zero = IsReader-same {G = IsLeaf} (leaf_text most zero) (text_leaf most) leaf-reads
value-reads most (suc left) =
    IsReader-same {G = IsValue most left} (value_text most left) (text_value most left)
    (Either-reads 42 (IsListOf most left) (ThenPlace (IsCountOf most) (InCount most) (InMembers most left (InValue most left))) (list_at (value_at most left) most) (list-reads most left (value-reads most left)) IsLeaf InLeaf leaf_at leaf-reads not_leaf no_leaf_nil leaf_waits)

value_waits : (most left : ℕ) → value_at most left [] ≡ unfinished
unfolding value_at
value_waits most zero = leaf_waits
value_waits most (suc left) = leaf_waits

-- no text is empty
pub text_nonempty : (most left : ℕ) (x : List ℕ) (t : Tree) → IsText most left x t → 0 < length x
text_nonempty most left [] t g = let e = (value-reads most left).again [] [] t g in let f = value_waits most left in cc
text_nonempty most left (c ∷ x) t g = omega arith

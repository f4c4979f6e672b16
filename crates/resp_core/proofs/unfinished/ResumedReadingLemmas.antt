-- How a reader goes on in an unfinished value.
use Rattle.std.proofs.Common.{◌≡◌, inl, inr, ℕ, zero, suc, ◌+◌, ◌-◌, ◌≤◌, min, List, [], ◌∷◌, ◌++◌, length, take, drop, Some, None, refl, sym, ap, ◌∙◌, append_assoc, arith}
use Rattle.std.proofs.lemmas.List.{take-append-drop, length-append, length-take, length-take-le, take_all, take_at}
use Rattle.std.proofs.lemmas.Bool.{cases_lt}
use Rattle.std.proofs.Math.Seq.{drop-append-add}
use Rattle.resp_core.specs.Tree.{bulk}
use Rattle.resp_core.specs.Value.{tree_of}
use Rattle.resp_core.specs.declared.error.Refusal.{Refusal}
use Rattle.resp_core.specs.declared.value.Value.{Value}
use Rattle.resp_core.specs.declared.head.Head.{Head}
use Rattle.resp_core.specs.declared.head.Next.{Next}
use Rattle.resp_core.specs.declared.head.Next.TheVariants as nexts
use Rattle.resp_core.specs.declared.head.Head.TheVariants as heads
use Rattle.resp_core.specs.declared.head.Found.TheVariants as founds
use Rattle.resp_core.specs.declared.partial_value.PartialValue.{PartialValue}
use Rattle.resp_core.specs.Grammar.{max_depth, max_text}
use Rattle.resp_core.specs.Reading.{payload_at, members_at, Outcome, found, unfinished, refused, value_at}
use Rattle.resp_core.specs.ResumedReading.{head_at, next_at, GoesOn}
use Rattle.resp_core.specs.declared.begun.Begun.{Begun}
use Rattle.resp_core.specs.Text.{line_end}
use Rattle.resp_core.specs.OpenLists.{nested_outcome, in_list}
use Rattle.resp_core.specs.PartialValue.{Reads, resume, due_at, seen_of}
use Rattle.resp_core.proofs.unfinished.OpenListLemmas.{nested_refused, nested_unfinished, nested_push, list_opens}
use Rattle.resp_core.proofs.reading.WholeValueLemmas.{IsPayload, InPayload, payload-reads}
use Rattle.resp_core.proofs.reading.GrammarReaderLemmas.{IsReader}

pub take_of_take : (k v : ℕ) (xs : List ℕ) → k ≤ v → take k (take v xs) ≡ take k xs
take_of_take zero v xs h = refl
take_of_take (suc k) zero xs h = absurd (omega arith)
take_of_take (suc k) (suc v) [] h = refl
take_of_take (suc k) (suc v) (x ∷ xs) h = ap (λ z. x ∷ z) (take_of_take k v xs (omega arith))

pub take_past : (xs ys : List ℕ) (n m : ℕ) → m ≡ length xs + n → take m (xs ++ ys) ≡ xs ++ take n ys
take_past [] ys n m e = ap (λ z. take z ys) (omega arith)
take_past (x ∷ xs) ys n zero e = absurd (omega arith)
take_past (x ∷ xs) ys n (suc m) e = ap (λ z. x ∷ z) (take_past xs ys n m (omega arith))

pub take_visible : (v m : ℕ) (xs : List ℕ) → v ≡ min (length xs) m → take v xs ≡ take m xs
take_visible v m xs e =
    elim (cases_lt (length xs) m) [
      | inl h ↦ take_all v xs (omega arith) ∙ sym (take_all m xs (omega arith))
      | inr h ↦ ap (λ z. take z xs) (omega arith)
    ]

-- so many bytes more were taken
pub reads_on : (most : ℕ) (held : List ℕ) (p q : PartialValue) (k : ℕ) → k ≤ length p.pending.items → q.pending.items ≡ drop k p.pending.items → q.came ≡ p.came + k → ((y : List ℕ) → resume most p (take k p.pending.items ++ y) ≡ resume most q y) → Reads most held p → Reads most held q
reads_on most held p q k few rest came same r = record {
  taken = r.taken ++ take k p.pending.items;
  split = r.split ∙ ap (λ z. r.taken ++ z) (sym (take-append-drop k p.pending.items)) ∙ sym (append_assoc r.taken (take k p.pending.items) (drop k p.pending.items)) ∙ ap (λ z. (r.taken ++ take k p.pending.items) ++ z) (sym rest);
  came = omega (arith, length-append r.taken (take k p.pending.items), length-take-le k p.pending.items few, r.came, came);
  same = λ y. ap (value_at most max_depth) (append_assoc r.taken (take k p.pending.items) y) ∙ r.same (take k p.pending.items ++ y) ∙ same y;
}

-- what is looked at: the bytes taken, and those that may be seen of the pending ones
pub seen_is : (most : ℕ) (held : List ℕ) (p : PartialValue) (v : ℕ) → p.came ≤ max_text + 1 → v ≡ min (length p.pending.items) (max_text + 1 - p.came) → (r : Reads most held p) → seen_of held ≡ r.taken ++ take v p.pending.items
seen_is most held p v few e r =
    ap (take (max_text + 1)) r.split ∙ take_past r.taken p.pending.items (max_text + 1 - p.came) (max_text + 1) (omega (arith, r.came))
    ∙ ap (λ z. r.taken ++ z) (sym (take_visible v (max_text + 1 - p.came) p.pending.items e))

-- a byte is refused
pub reads_refused : (most : ℕ) (held : List ℕ) (p : PartialValue) (v place : ℕ) (w : Refusal) → p.came ≤ max_text + 1 → v ≡ min (length p.pending.items) (max_text + 1 - p.came) → due_at most (max_depth - length p.opens.items) p.done p.next (take v p.pending.items) ≡ refused w (drop place (take v p.pending.items)) → Reads most held p → value_at most max_depth (seen_of held) ≡ refused w (drop (p.came + place) (seen_of held))
reads_refused most held p v place w few e h r =
    let s = seen_is most held p v few e r in
    let d : drop (p.came + place) (seen_of held) ≡ drop place (take v p.pending.items) = ap (drop (p.came + place)) s ∙ ap (λ z. drop (z + place) (r.taken ++ take v p.pending.items)) (sym r.came) ∙ drop-append-add r.taken (take v p.pending.items) place in
    ap (value_at most max_depth) s ∙ r.same (take v p.pending.items) ∙ ap (nested_outcome most max_depth p.opens.items) h ∙ nested_refused most max_depth p.opens.items w _ ∙ ap (refused w) (sym d)

-- it is less than a value
pub reads_unfinished : (most : ℕ) (held : List ℕ) (p : PartialValue) (v : ℕ) → p.came ≤ max_text + 1 → v ≡ min (length p.pending.items) (max_text + 1 - p.came) → due_at most (max_depth - length p.opens.items) p.done p.next (take v p.pending.items) ≡ unfinished → Reads most held p → value_at most max_depth (seen_of held) ≡ unfinished
reads_unfinished most held p v few e h r =
    ap (value_at most max_depth) (seen_is most held p v few e r) ∙ r.same (take v p.pending.items) ∙ ap (nested_outcome most max_depth p.opens.items) h ∙ nested_unfinished most max_depth p.opens.items

-- a head goes on
pub head_goes_on : (most : ℕ) (p q : PartialValue) (h : Head) (next : Next) (v k : ℕ) → p.done ≡ None → p.next ≡ nexts.Head h → q.opens.items ≡ p.opens.items → q.done ≡ None → q.next ≡ next → k ≤ v → GoesOn most (max_depth - length p.opens.items) h (take k (take v p.pending.items)) next → (y : List ℕ) → resume most p (take k p.pending.items ++ y) ≡ resume most q y
head_goes_on most p q h next v k none is opens none' is' few g y =
    rw (none, is, opens, none', is') (ap (nested_outcome most max_depth p.opens.items) (ap (λ z. head_at most (max_depth - length p.opens.items) h (z ++ y)) (sym (take_of_take k v p.pending.items few)) ∙ g y))

-- what a reader of a part finds, it finds whatever follows
pub found_on : {A : Type 0} (G : List ℕ → A → Type 0) (N : List ℕ → ℕ → Refusal → Type 0) (read : List ℕ → Outcome A) → IsReader G N read → (b rest : List ℕ) (a : A) → read b ≡ found a rest → (x : List ℕ) × (b ≡ x ++ rest) × G x a × ((y : List ℕ) → read (x ++ y) ≡ found a y)
found_on G N read law b rest a e = let (x, split, text) = law.sound b rest a e in (x, split, text, (λ y. law.again x y a text))

-- a payload that is found, and its line end
pub record IsCut (n : ℕ) (b rest s : List ℕ) : Type 0 where
  pub count : n ≡ length s
  pub parts : b ≡ (s ++ line_end) ++ rest
  pub same : (y : List ℕ) → payload_at (Some n) ((s ++ line_end) ++ y) ≡ found (bulk s) y

pub payload_cut : (n : ℕ) (b rest s : List ℕ) → payload_at (Some n) b ≡ found (bulk s) rest → IsCut n b rest s
payload_cut n b rest s e =
    let (x, split, payload) = (payload-reads (Some n)).sound b rest (bulk s) e in
    let (bytes, _, back, x_split, (front_is, len), (_, back_is, same_bulk)) = payload in
    let s_is : s ≡ bytes = cc in
    let x_is : x ≡ s ++ line_end = x_split ∙ ap (λ z. z ++ back) (front_is ∙ sym s_is) ∙ ap (λ z. s ++ z) back_is in
    record {
      count = omega (arith, len, ap length s_is, ap length front_is);
      parts = split ∙ ap (λ z. z ++ rest) x_is;
      same = λ y. ap (λ z. payload_at (Some n) (z ++ y)) (sym x_is) ∙ (payload-reads (Some n)).again x y (bulk s) payload;
    }

-- what is refused stands at the end
pub refused_end : {A : Type 0} (G : List ℕ → A → Type 0) (N : List ℕ → ℕ → Refusal → Type 0) (read : List ℕ → Outcome A) → IsReader G N read → (b rest : List ℕ) (w : Refusal) → read b ≡ refused w rest → (length rest ≤ length b) × (rest ≡ drop (length b - length rest) b)
refused_end G N read law b rest w e =
    let q = law.first b rest w e in
    let l : length b - length rest ≡ length q.before + 0 = omega (arith, ap length q.split, length-append q.before rest) in
    (omega (arith, ap length q.split, length-append q.before rest), sym (ap (λ z. drop z b) l ∙ ap (drop (length q.before + 0)) q.split ∙ drop-append-add q.before rest 0))

-- a list opens within those that are open
pub opens_more : (most n : ℕ) (opens more : List Begun) (begun : Begun) (y : List ℕ) → more ≡ opens ++ begun ∷ [] → begun.due + 1 ≡ n → begun.members ≡ [] → nested_outcome most max_depth opens (members_at (value_at most (max_depth - length opens - 1)) (Some n) y) ≡ nested_outcome most max_depth more (value_at most (max_depth - length more) y)
opens_more most n opens more begun y e f g =
    let left : max_depth - length opens - 1 ≡ max_depth - length more = omega (arith, ap length e, length-append opens (begun ∷ [])) in
    let m : n ≡ suc begun.due = omega (arith, f) in
    ap (λ z. nested_outcome most max_depth opens (members_at (value_at most (max_depth - length opens - 1)) (Some z) y)) m
    ∙ ap (nested_outcome most max_depth opens) (list_opens most (max_depth - length opens - 1) begun.due begun y refl g)
    ∙ ap (λ z. nested_outcome most max_depth opens (in_list most (max_depth - length opens - 1) begun (value_at most z y))) left
    ∙ sym (nested_push most max_depth opens begun (value_at most (max_depth - length more) y))
    ∙ ap (λ z. nested_outcome most max_depth z (value_at most (max_depth - length more) y)) (sym e)

-- nothing was taken
pub reads_along : (most : ℕ) (held : List ℕ) (p q : PartialValue) → q.pending.items ≡ p.pending.items → q.came ≡ p.came → ((y : List ℕ) → resume most p y ≡ resume most q y) → Reads most held p → Reads most held q
reads_along most held p q e f same r = record {
  taken = r.taken;
  split = r.split ∙ ap (λ z. r.taken ++ z) (sym e);
  came = r.came ∙ sym f;
  same = λ y. r.same y ∙ same y;
}

pub opens_along : (most n : ℕ) (p q : PartialValue) (begun : Begun) → p.done ≡ None → p.next ≡ nexts.Found (founds.Members n) → q.opens.items ≡ p.opens.items ++ begun ∷ [] → begun.due + 1 ≡ n → begun.members ≡ [] → q.done ≡ None → q.next ≡ nexts.Head heads.Type → (y : List ℕ) → resume most p y ≡ resume most q y
opens_along most n p q begun none is e f g done next y = rw (none, is, done, next) (opens_more most n p.opens.items q.opens.items begun y e f g)

-- where a payload is cut
pub record CutsAt (items rest s : List ℕ) (v : ℕ) : Type 0 where
  pub len : length s + 2 ≡ v - length rest
  pub inside : length rest ≤ v
  pub all : take (v - length rest) items ≡ s ++ line_end
  pub front : take (length s) items ≡ s

pub cuts_at : (n v : ℕ) (b items rest s : List ℕ) → b ≡ take v items → v ≤ length items → payload_at (Some n) b ≡ found (bulk s) rest → CutsAt items rest s v
cuts_at n v b items rest s b_is few e =
    let cut = payload_cut n b rest s e in
    let parts : take v items ≡ (s ++ line_end) ++ rest = sym b_is ∙ cut.parts in
    let l : length s + 2 + length rest ≡ v = omega (arith, ap length parts, length-append (s ++ line_end) rest, length-append s line_end, length-take-le v items few) in
    let k : length (s ++ line_end) ≡ v - length rest = omega (arith, l, length-append s line_end) in
    record {
      len = omega (arith, l);
      inside = omega (arith, l);
      all = sym (take_of_take (v - length rest) v items (omega arith)) ∙ ap (take (v - length rest)) parts ∙ take_at (s ++ line_end) rest (v - length rest) k;
      front = sym (take_of_take (length s) v items (omega (arith, l))) ∙ ap (take (length s)) (parts ∙ append_assoc s line_end rest) ∙ take_at s (line_end ++ rest) (length s) refl;
    }

pub bulk_along : (most n k : ℕ) (p q : PartialValue) (b rest s : List ℕ) (w : Value) → p.done ≡ None → p.next ≡ nexts.Found (founds.Payload n) → q.opens.items ≡ p.opens.items → q.done ≡ Some w → tree_of w ≡ bulk s → payload_at (Some n) b ≡ found (bulk s) rest → take k p.pending.items ≡ s ++ line_end → (y : List ℕ) → resume most p (take k p.pending.items ++ y) ≡ resume most q y
bulk_along most n k p q b rest s w none is opens done t e all y =
    rw (none, is, opens, done, t, all) (ap (nested_outcome most max_depth p.opens.items) ((payload_cut n b rest s e).same y))

-- a payload that is refused
pub payload_refused : (most n v : ℕ) (held : List ℕ) (p : PartialValue) (b rest : List ℕ) (w : Refusal) → p.done ≡ None → p.next ≡ nexts.Found (founds.Payload n) → b ≡ take v p.pending.items → p.came ≤ max_text + 1 → v ≡ min (length p.pending.items) (max_text + 1 - p.came) → payload_at (Some n) b ≡ refused w rest → Reads most held p → value_at most max_depth (seen_of held) ≡ refused w (drop (p.came + (v - length rest)) (seen_of held))
payload_refused most n v held p b rest w none is b_is few v_is e r =
    let q = refused_end (IsPayload (Some n)) (InPayload (Some n)) (payload_at (Some n)) (payload-reads (Some n)) b rest w e in
    let len : length b ≡ v = omega (arith, ap length b_is, length-take-le v p.pending.items (omega (arith, v_is))) in
    let f : payload_at (Some n) (take v p.pending.items) ≡ refused w (drop (v - length rest) (take v p.pending.items)) = ap (payload_at (Some n)) (sym b_is) ∙ e ∙ ap (refused w) (q.1 ∙ ap (λ z. drop (z - length rest) b) len ∙ ap (drop (v - length rest)) b_is) in
    reads_refused most held p v (v - length rest) w few v_is (rw (none, is) f) r

pub payload_end_inside : (n v : ℕ) (xs rest : List ℕ) (w : Refusal) → payload_at (Some n) (take v xs) ≡ refused w rest → length rest ≤ v
payload_end_inside n v xs rest w e =
    let h = (refused_end (IsPayload (Some n)) (InPayload (Some n)) (payload_at (Some n)) (payload-reads (Some n)) (take v xs) rest w e).0 in
    omega (arith, h, length-take v xs)

pub payload_unfinished : (most n v : ℕ) (held : List ℕ) (p : PartialValue) (b : List ℕ) → p.done ≡ None → p.next ≡ nexts.Found (founds.Payload n) → b ≡ take v p.pending.items → p.came ≤ max_text + 1 → v ≡ min (length p.pending.items) (max_text + 1 - p.came) → payload_at (Some n) b ≡ unfinished → Reads most held p → value_at most max_depth (seen_of held) ≡ unfinished
payload_unfinished most n v held p b none is b_is few v_is e r =
    let f : payload_at (Some n) (take v p.pending.items) ≡ unfinished = ap (payload_at (Some n)) (sym b_is) ∙ e in
    reads_unfinished most held p v few v_is (rw (none, is) f) r

-- a value came behind the last head, and nothing was taken for it
pub reads_found : (most : ℕ) (held : List ℕ) (p q : PartialValue) (v : Value) → p.done ≡ None → q.pending ≡ p.pending → q.opens ≡ p.opens → q.came ≡ p.came → q.done ≡ Some v → ((left : ℕ) (y : List ℕ) → next_at most left p.next y ≡ found (tree_of v) y) → Reads most held p → Reads most held q
reads_found most held p q v none pending opens came done same r =
    reads_along most held p q (ap (λ z. z.items) pending) came
    (λ y. rw (none, opens, done) (ap (nested_outcome most max_depth p.opens.items) (same (max_depth - length p.opens.items) y))) r

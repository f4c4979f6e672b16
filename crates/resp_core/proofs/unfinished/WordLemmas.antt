-- A bulk string that is read at once: its head, and then its payload.
use Rattle.std.proofs.Common.{◌≡◌, ℕ, ◌+◌, ◌-◌, ◌<◌, ◌≤◌, List, [], ◌++◌, length, take, drop, decimal, Some, None, refl, sym, ap, ◌∙◌, subst, arith}
use Rattle.std.proofs.lemmas.List.{append_assoc, append-nil, drop-take, length-append, length-drop, length-take-le, take-append-drop, take-append-le, take_all}
use Rattle.std.proofs.lemmas.Fmt.{length-decimal-le}
use Rattle.resp_core.specs.Tree.{bulk}
use Rattle.resp_core.specs.Value.{tree_of}
use Rattle.resp_core.specs.Grammar.{max_bulk, max_depth}
use Rattle.resp_core.specs.Reading.{payload_at, found}
use Rattle.resp_core.specs.Text.{line_end, text}
use Rattle.resp_core.specs.ResumedReading.{GoesOn}
use Rattle.resp_core.specs.PartialValue.{Reads}
use Rattle.resp_core.specs.declared.value.Value.{Value}
use Rattle.resp_core.specs.declared.head.Next.TheVariants as nexts
use Rattle.resp_core.specs.declared.head.Head.TheVariants as heads
use Rattle.resp_core.specs.declared.head.Found.TheVariants as founds
use Rattle.resp_core.specs.declared.partial_value.PartialValue.{PartialValue}
use Rattle.resp_core.proofs.PayloadLemmas.{length_bulk}
use Rattle.resp_core.proofs.OneSpellingLemmas.{shortest_text_is_spelling}
use Rattle.resp_core.proofs.reading.WholeValueLemmas.{value-reads}
use Rattle.resp_core.proofs.unfinished.ResumedReadingLemmas.{CutsAt, cuts_at, payload_cut, take_of_take, reads_on, head_goes_on, bulk_along}

-- what is looked at behind a head
pub behind_head : (v head : ℕ) (items : List ℕ) → head ≤ v → take (v - head) (drop head (take v items)) ≡ take (v - head) (drop head items)
behind_head v head items few =
    let e : v ≡ head + (v - head) = omega (arith, few) in
    ap (take (v - head)) (ap (λ z. drop head (take z items)) e ∙ drop-take head (v - head) items) ∙ take_of_take (v - head) (v - head) (drop head items) (omega arith)

-- where the payload behind a head is cut
pub word_cut : (n v head : ℕ) (b items rest s : List ℕ) → b ≡ take (v - head) (drop head items) → v ≤ length items → payload_at (Some n) b ≡ found (bulk s) rest → CutsAt (drop head items) rest s (v - head)
word_cut n v head b items rest s b_is inside e =
    cuts_at n (v - head) b (drop head items) rest s b_is (omega (arith, length-drop head items, inside)) e

-- a head of a payload was read
pub head_read : (most n v head : ℕ) (held : List ℕ) (p q : PartialValue) → p.done ≡ None → p.next ≡ nexts.Head heads.Type → v ≤ length p.pending.items → head ≤ v → GoesOn most (max_depth - length p.opens.items) heads.Type (take head (take v p.pending.items)) (nexts.Found (founds.Payload n)) → q.pending.items ≡ drop head p.pending.items → q.opens.items ≡ p.opens.items → q.done ≡ None → q.next ≡ nexts.Found (founds.Payload n) → q.came ≡ p.came + head → Reads most held p → Reads most held q
head_read most n v head held p q done next inside few g items opens done' next' came r =
    reads_on most held p q head (omega (arith, inside, few)) items came (head_goes_on most p q heads.Type (nexts.Found (founds.Payload n)) v head done next opens done' next' few g) r

-- and its payload too
pub word_read : (most n v head k : ℕ) (held b : List ℕ) (p q : PartialValue) (rest s : List ℕ) (w : Value) → p.done ≡ None → p.next ≡ nexts.Head heads.Type → v ≤ length p.pending.items → head ≤ v → GoesOn most (max_depth - length p.opens.items) heads.Type (take head (take v p.pending.items)) (nexts.Found (founds.Payload n)) → b ≡ take (v - head) (drop head p.pending.items) → payload_at (Some n) b ≡ found (bulk s) rest → k ≡ v - head - length rest → tree_of w ≡ bulk s → q.pending.items ≡ drop k (drop head p.pending.items) → q.opens.items ≡ p.opens.items → q.done ≡ Some w → q.came ≡ p.came + head + k → Reads most held p → Reads most held q
word_read most n v head k held b p q rest s w done next inside few g b_is e k_is t items opens done' came r =
    let between : PartialValue = record {
      pending = record { items = drop head p.pending.items; spare = 0 };
      room = p.room;
      opens = p.opens;
      done = None;
      next = nexts.Found (founds.Payload n);
      seen = 0;
      came = p.came + head;
      needed = 0;
    } in
    let cut = word_cut n v head b p.pending.items rest s b_is inside e in
    let all : take k (drop head p.pending.items) ≡ take (v - head - length rest) (drop head p.pending.items) = ap (λ z. take z (drop head p.pending.items)) k_is in
    reads_on most held between q k (omega (arith, k_is, length-drop head p.pending.items, inside, few)) items came
    (bulk_along most n k between q b rest s w refl refl opens done' t e (all ∙ cut.all))
    (head_read most n v head held p between done next inside few g refl refl refl refl refl r)

-- what was read at once, in the one spelling: the text of a bulk string, with its payload behind the head
pub record IsWord (head len : ℕ) (items s : List ℕ) : Type 0 where
  pub text : take len items ≡ text (bulk s)
  pub places : head + length s + 2 ≡ length (take len items)

-- a head as long as the one spelling's is that
pub word_text : (most left n v head : ℕ) (b items rest s : List ℕ) → v ≤ length items → head ≤ v → GoesOn most left heads.Type (take head (take v items)) (nexts.Found (founds.Payload n)) → b ≡ take (v - head) (drop head items) → payload_at (Some n) b ≡ found (bulk s) rest → head ≡ length (decimal n) + 3 → IsWord head (v - length rest) items s
word_text most left n v head b items rest s inside few g b_is e places =
    let front = take head (take v items) in
    let x = s ++ line_end in
    let cut = payload_cut n b rest s e in
    let looked = length-take-le v items inside in
    let head_len : length front ≡ head = length-take-le head (take v items) (omega (arith, looked, few)) in
    let (z, split, is_text) = (value-reads most left).sound (front ++ (x ++ [])) [] (bulk s) (g (x ++ []) ∙ cut.same []) in
    let z_is : front ++ x ≡ z = ap (λ y. front ++ y) (sym (append-nil x)) ∙ split ∙ append-nil z in
    let n_is : length s ≡ n = sym cut.count in
    let whole : length z ≡ length (text (bulk s)) =
    omega (arith, ap length (sym z_is), length-append front x, length-append s line_end, head_len, places, length_bulk s, ap (λ y. length (decimal y)) n_is) in
    let spelled : z ≡ text (bulk s) = shortest_text_is_spelling most left z (bulk s) is_text whole in
    let behind : drop head (take v items) ≡ b = ap (λ y. drop head (take y items)) e_v ∙ drop-take head (v - head) items ∙ sym b_is in
    let all : take v items ≡ (front ++ x) ++ rest = sym (take-append-drop head (take v items)) ∙ ap (λ y. front ++ y) (behind ∙ cut.parts) ∙ sym (append_assoc front x rest) in
    let k : v - length rest ≡ length (front ++ x) = omega (arith, looked, ap length all, length-append (front ++ x) rest) in
    let taken : take (v - length rest) items ≡ front ++ x =
    sym (take_of_take (v - length rest) v items (omega arith)) ∙ ap (take (v - length rest)) all ∙ ap (λ y. take y ((front ++ x) ++ rest)) k
    ∙ take-append-le (length (front ++ x)) (front ++ x) rest (omega arith) ∙ take_all (length (front ++ x)) (front ++ x) (omega arith) in
    record {
      text = taken ∙ z_is ∙ spelled;
      places = omega (arith, ap length taken, length-append front x, length-append s line_end, head_len);
    }
  where
    e_v : v ≡ head + (v - head)
    e_v = omega (arith, few)

-- the same, of the bytes that are looked at: so many of those that came
pub record IsLooked (most left n v head : ℕ) (items rest s : List ℕ) : Type 0 where
  pub few : head ≤ v
  pub small : head < 256
  pub gives : GoesOn most left heads.Type (take head (take v items)) (nexts.Found (founds.Payload n))
  pub reads : payload_at (Some n) (take (v - head) (drop head items)) ≡ found (bulk s) rest
  pub cut : CutsAt (drop head items) rest s (v - head)
  pub word : IsWord head (v - length rest) items s

pub is_looked : (most left n v head : ℕ) (items rest s : List ℕ) → v ≤ length items → head ≤ length (take v items) → GoesOn most left heads.Type (take head (take v items)) (nexts.Found (founds.Payload n)) → payload_at (Some n) (take (length (take v items) - head) (drop head (take v items))) ≡ found (bulk s) rest → n ≤ max_bulk → head ≡ length (decimal n) + 3 → IsLooked most left n v head items rest s
is_looked most left n v head items rest s inside few gives e small places =
    let looked : length (take v items) ≡ v = length-take-le v items inside in
    let head_few : head ≤ v = omega (arith, few, looked) in
    let b_is : take (length (take v items) - head) (drop head (take v items)) ≡ take (v - head) (drop head items) = ap (λ z. take (z - head) (drop head (take v items))) looked ∙ behind_head v head items head_few in
    let reads = ap (payload_at (Some n)) (sym b_is) ∙ e in
    record {
      few = head_few;
      small = omega (arith, places, length-decimal-le 20 n (omega arith) (omega (arith, small)) (omega (arith, small)));
      gives = gives;
      reads = reads;
      cut = word_cut n v head _ items rest s refl inside reads;
      word = word_text most left n v head _ items rest s inside head_few gives refl reads places;
    }

-- what is the same has come as far
pub same_reads : (most : ℕ) (held : List ℕ) (p q : PartialValue) → q ≡ p → Reads most held p → Reads most held q
same_reads most held p q e r = subst (λ (z : PartialValue). Reads most held z) (sym e) r

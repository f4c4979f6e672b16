-- From how far a reader has come to what stands in the stream.
use Rattle.std.proofs.Common.{◌≡◌, ◌≢◌, ◌⊎◌, ℕ, ◌+◌, ◌-◌, ◌≤◌, ◌<◌, Option, Some, None, IfSome, List, [], ◌++◌, length, take, drop, refl, sym, ap, ◌∙◌, subst, append-nil, arith}
use Rattle.std.proofs.lemmas.List.{take-append-drop, length-append, length-take, length-drop, take_all, take_at}
use Rattle.std.proofs.lemmas.Bool.{lt-ltb}
use Rattle.std.proofs.Math.Seq.{drop-append-add}
use Rattle.resp_core.specs.Tree.{Tree}
use Rattle.resp_core.specs.Grammar.{IsText, max_depth, max_text}
use Rattle.resp_core.specs.declared.error.Refusal.{Refusal}
use Rattle.resp_core.specs.declared.error.Refusal.TheVariants.{TooLong, TooDeep}
use Rattle.resp_core.specs.declared.partial_value.PartialValue.{PartialValue}
use Rattle.resp_core.specs.Offset.{refusal_number}
use Rattle.resp_core.specs.Reading.{Outcome, found, unfinished, refused, value_at, payload_at, bytes_at}
use Rattle.resp_core.specs.FirstValue.{IsFirstValue, IsUnfinished, IsFault}
use Rattle.resp_core.specs.PartialValue.{Reads, Finds, IsFresh, IsGood, payload_due, seen_of, held_of, shown_progress}
use Rattle.resp_core.proofs.streams.FirstValueLemmas.{first_unfinished, first_unfinished_long, first_too_long, first_told}
use Rattle.resp_core.proofs.reading.WholeValueLemmas.{value-reads}
use Rattle.resp_core.proofs.unfinished.ResumedReadingLemmas.{payload_unfinished}
use Rattle.resp_core.specs.declared.value.Value.{Value}
use Rattle.resp_core.specs.declared.head.Next.{Next}
use Rattle.resp_core.specs.declared.head.Next.TheVariants as nexts
use Rattle.resp_core.specs.declared.head.Head.TheVariants as heads
use Rattle.resp_core.specs.declared.head.Found.TheVariants as founds

pub held_is : (most : ℕ) (held : List ℕ) (p : PartialValue) → Reads most held p → held_of p ≡ length held
held_is most held p r = omega (arith, ap length r.split, length-append r.taken p.pending.items, r.came)

pub none_yet : (most : ℕ) (held : List ℕ) → value_at most max_depth (seen_of held) ≡ unfinished → length held ≤ max_text → IsUnfinished most held
none_yet most held e h = first_unfinished most held (ap (value_at most max_depth) (sym (take_all (max_text + 1) held (omega (arith, h)))) ∙ e) h

parts : (held : List ℕ) → held ≡ seen_of held ++ drop (max_text + 1) held
parts held = sym (take-append-drop (max_text + 1) held)

pub none_too_long : (most : ℕ) (held : List ℕ) → value_at most max_depth (seen_of held) ≡ unfinished → max_text < length held → IsFault most held max_text 106
none_too_long most held e h = first_unfinished_long most held (seen_of held) (drop (max_text + 1) held) (parts held) e (omega (arith, length-take (max_text + 1) held, h))

pub gives_value : (most : ℕ) (held : List ℕ) (p : PartialValue) (t : Tree) → Finds most held p t → p.came ≤ max_text → IsFirstValue most held t p.came
gives_value most held p t f few =
    let e : value_at most max_depth f.taken ≡ found t [] = ap (value_at most max_depth) (sym (append-nil f.taken)) ∙ f.same [] in
    let (x, split, x_text) = (value-reads most max_depth).sound f.taken [] t e in
    let whole : f.taken ≡ x = split ∙ append-nil x in
    record {
      inside = omega (arith, ap length f.split, length-append f.taken p.pending.items, f.came);
      text = subst (λ (z : List ℕ). IsText most max_depth z t) (sym (ap (take p.came) f.split ∙ take_at f.taken p.pending.items p.came f.came ∙ whole)) x_text;
      few = few;
    }

pub value_too_long : (most : ℕ) (held : List ℕ) (p : PartialValue) (t : Tree) → Finds most held p t → p.came ≡ max_text + 1 → IsFault most held max_text 106
value_too_long most held p t f e =
    let g : value_at most max_depth f.taken ≡ found t [] = ap (value_at most max_depth) (sym (append-nil f.taken)) ∙ f.same [] in
    first_too_long most held f.taken p.pending.items f.split t [] g (omega (arith, f.came, e)) (omega (arith, f.came, e))

pub byte_refused : (most : ℕ) (held : List ℕ) (r w : Refusal) (place : ℕ) → value_at most max_depth (seen_of held) ≡ refused r (drop place (seen_of held)) → place ≤ length (seen_of held) → ((r ≡ TooDeep) × (place ≡ max_text) × (w ≡ TooLong)) ⊎ ((place ≡ max_text → r ≢ TooDeep) × (w ≡ r)) → IsFault most held place (refusal_number w)
byte_refused most held r w place e h told =
    let l : length (seen_of held) - length (drop place (seen_of held)) ≡ place = omega (arith, length-drop place (seen_of held), h) in
    subst (λ (z : ℕ). IsFault most held z (refusal_number w)) l
    (first_told most held (seen_of held) (drop (max_text + 1) held) (parts held) r w (drop place (seen_of held)) e (omega (arith, length-take (max_text + 1) held))
    (subst (λ (z : ℕ). ((r ≡ TooDeep) × (z ≡ max_text) × (w ≡ TooLong)) ⊎ ((z ≡ max_text → r ≢ TooDeep) × (w ≡ r))) (sym l) told))

-- how much room there is changes nothing
pub reads_shown : (most : ℕ) (held : List ℕ) (p : PartialValue) → Reads most held p → Reads most held (shown_progress p)
reads_shown most held p r = record { taken = r.taken; split = r.split; came = r.came; same = r.same }

pub shown_reads : (most : ℕ) (held : List ℕ) (p : PartialValue) → Reads most held (shown_progress p) → Reads most held p
shown_reads most held p r = record { taken = r.taken; split = r.split; came = r.came; same = r.same }

pub same_shown : (most : ℕ) (held : List ℕ) (p q : PartialValue) → shown_progress q ≡ shown_progress p → Reads most held p → Reads most held q
same_shown most held p q e r = shown_reads most held q (subst (λ (z : PartialValue). Reads most held z) (sym e) (reads_shown most held p r))

-- nothing is read of the bytes behind a value that was given
pub starts_anew : (most : ℕ) (held : List ℕ) (p q : PartialValue) (t : Tree) → Finds most held p t → IsFresh p → q.pending.items ≡ p.pending.items → q.opens.items ≡ p.opens.items → q.done ≡ p.done → q.next ≡ p.next → q.came ≡ 0 → Reads most (drop p.came held) q
starts_anew most held p q t f fresh pending opens done next came =
    let n : p.came ≡ length f.taken + 0 = omega (arith, f.came) in
    record {
      taken = [];
      split = ap (drop p.came) f.split ∙ ap (λ z. drop z (f.taken ++ p.pending.items)) n ∙ drop-append-add f.taken p.pending.items 0 ∙ sym pending;
      came = sym came;
      same = λ y. rw (opens ∙ fresh.opens, done ∙ fresh.done, next ∙ fresh.next) refl;
    }

-- the byte that is refused is one of those that are looked at
pub place_inside : (most : ℕ) (b : List ℕ) (r : Refusal) (place : ℕ) → value_at most max_depth b ≡ refused r (drop place b) → place ≤ length b
place_inside most b r place e =
    let q = (value-reads most max_depth).first b (drop place b) r e in
    omega (arith, ap length q.rest_is, length-drop place b)

-- a payload is due of which not all bytes have come
payload_is_due : (next : Next) (k : ℕ) → k < payload_due next → (n : ℕ) × (next ≡ nexts.Found (founds.Payload n)) × (k < n)
payload_is_due (nexts.Head h) k less = absurd (omega (arith, less))
payload_is_due (nexts.Found (founds.Payload n)) k less = (n, refl, less)
payload_is_due (nexts.Found (founds.Line l)) k less = absurd (omega (arith, less))
payload_is_due (nexts.Found (founds.Members n)) k less = absurd (omega (arith, less))
payload_is_due (nexts.Found founds.NullBulk) k less = absurd (omega (arith, less))
payload_is_due (nexts.Found founds.NullList) k less = absurd (omega (arith, less))
payload_is_due (nexts.Found (founds.Whole n)) k less = absurd (omega (arith, less))

done_none : (done : Option Value) (next : Next) (n : ℕ) → IfSome done (λ _. next ≡ nexts.Head heads.Type) → next ≡ nexts.Found (founds.Payload n) → done ≡ None
done_none None next n good is = refl
done_none (Some v) next n good is = let e : nexts.Head heads.Type ≡ nexts.Found (founds.Payload n) = sym good ∙ is in cc

short_payload : (n : ℕ) (b : List ℕ) → length b < n → payload_at (Some n) b ≡ unfinished
unfolding payload_at bytes_at
short_payload n b less = rw (lt-ltb (length b) n less) refl

pub none_while_short : (most : ℕ) (held : List ℕ) (p : PartialValue) → IsGood most p → length p.pending.items < p.needed → Reads most held p → IsUnfinished most held
none_while_short most held p good less r =
    let (n, due, short) = payload_is_due p.next (length p.pending.items) (omega (arith, less, good.needed.0)) in
    let none : p.done ≡ None = done_none p.done p.next n good.done due in
    let v = length p.pending.items in
    let all : p.pending.items ≡ take v p.pending.items = sym (take_all v p.pending.items (omega arith)) in
    none_yet most held
    (payload_unfinished most n v held p p.pending.items none due all (omega (arith, good.came)) (omega (arith, less, good.needed.1)) (short_payload n p.pending.items short) r)
    (omega (arith, held_is most held p r, less, good.needed.1))

-- bytes that are less than a whole value are read as such
pub unfinished_is : (most : ℕ) (held : List ℕ) → IsUnfinished most held → value_at most max_depth held ≡ unfinished
unfinished_is most held u = by (value_at most max_depth held) refl
  where
    by : (o : Outcome Tree) → value_at most max_depth held ≡ o → value_at most max_depth held ≡ unfinished
    by (found t y) e =
        let (x, split, text) = (value-reads most max_depth).sound held y t e in
        absurd (u.not_whole (t, x, y, split, text, omega (arith, ap length split, length-append x y, u.few)))
    by unfinished e = e
    by (refused w rest) e =
        let (more, t, text) = u.begins in
        let whole = (value-reads most max_depth).again (held ++ more) [] t text in
        let stays = (value-reads most max_depth).stays held more rest w e in
        let clash : refused w (rest ++ more) ≡ found t [] = sym stays ∙ sym (ap (value_at most max_depth) (append-nil (held ++ more))) ∙ whole in
        cc

-- whether they are depends on how far a reader has come in them alone
pub unfinished_too : (most : ℕ) (held other : List ℕ) (p : PartialValue) → Reads most held p → Reads most other p → IsUnfinished most held → IsUnfinished most other
unfinished_too most held other p r q u =
    first_unfinished most other
    (ap (value_at most max_depth) q.split ∙ q.same p.pending.items ∙ sym (ap (value_at most max_depth) r.split ∙ r.same p.pending.items) ∙ unfinished_is most held u)
    (omega (arith, held_is most held p r, held_is most other p q, u.few))

-- How a line of text is taken.
use Rattle.std.proofs.Common.{◌≡◌, ℕ, ◌+◌, ◌-◌, ◌≤◌, min, List, [], ◌++◌, length, take, drop, Some, None, refl, sym, ap, ◌∙◌, append_assoc, arith}
use Rattle.std.proofs.lemmas.List.{length-append, length-take, length-take-le, take_at}
use Rattle.resp_core.specs.declared.head.Line.{Line}
use Rattle.resp_core.specs.ResumedReading.{line_tree}
use Rattle.resp_core.specs.Value.{tree_of}
use Rattle.resp_core.specs.Text.{line_end}
use Rattle.resp_core.specs.declared.error.Refusal.{Refusal}
use Rattle.resp_core.specs.declared.value.Value.{Value}
use Rattle.resp_core.specs.declared.head.Next.TheVariants as nexts
use Rattle.resp_core.specs.declared.head.Found.TheVariants as founds
use Rattle.resp_core.specs.declared.partial_value.PartialValue.{PartialValue}
use Rattle.resp_core.specs.Grammar.{max_depth, max_text}
use Rattle.resp_core.specs.Reading.{found, unfinished, refused, and_then, text_at, value_at}
use Rattle.resp_core.specs.OpenLists.{nested_outcome}
use Rattle.resp_core.specs.PartialValue.{Reads, resume, seen_of}
use Rattle.resp_core.proofs.reading.RefusedPlaces.{InLine}
use Rattle.resp_core.proofs.reading.PartLemmas.{IsTextLine, text-reads}
use Rattle.resp_core.proofs.unfinished.ResumedReadingLemmas.{CutsAt, take_of_take, refused_end, reads_refused, reads_unfinished}

pub record IsLineCut (b rest s : List ℕ) : Type 0 where
  pub parts : b ≡ (s ++ line_end) ++ rest
  pub same : (y : List ℕ) → text_at [] ((s ++ line_end) ++ y) ≡ found s y

pub line_cut : (b rest s : List ℕ) → text_at [] b ≡ found s rest → IsLineCut b rest s
line_cut b rest s e =
    let (x, split, text) = text-reads.sound b rest s e in
    let x_is : x ≡ s ++ line_end = text.1 in
    record {
      parts = split ∙ ap (λ z. z ++ rest) x_is;
      same = λ y. ap (λ z. text_at [] (z ++ y)) (sym x_is) ∙ text-reads.again x y s text;
    }

pub cuts_line_at : (v : ℕ) (b items rest s : List ℕ) → b ≡ take v items → v ≤ length items → text_at [] b ≡ found s rest → CutsAt items rest s v
cuts_line_at v b items rest s b_is few e =
    let cut = line_cut b rest s e in
    let parts : take v items ≡ (s ++ line_end) ++ rest = sym b_is ∙ cut.parts in
    let l : length s + 2 + length rest ≡ v = omega (arith, ap length parts, length-append (s ++ line_end) rest, length-append s line_end, length-take-le v items few) in
    let k : length (s ++ line_end) ≡ v - length rest = omega (arith, l, length-append s line_end) in
    record {
      len = omega (arith, l);
      inside = omega (arith, l);
      all = sym (take_of_take (v - length rest) v items (omega arith)) ∙ ap (take (v - length rest)) parts ∙ take_at (s ++ line_end) rest (v - length rest) k;
      front = sym (take_of_take (length s) v items (omega (arith, l))) ∙ ap (take (length s)) (parts ∙ append_assoc s line_end rest) ∙ take_at s (line_end ++ rest) (length s) refl;
    }

pub line_along : (k : Line) (most l : ℕ) (p q : PartialValue) (b rest s : List ℕ) (w : Value) → p.done ≡ None → p.next ≡ nexts.Found (founds.Line k) → q.opens.items ≡ p.opens.items → q.done ≡ Some w → tree_of w ≡ line_tree k s → text_at [] b ≡ found s rest → take l p.pending.items ≡ s ++ line_end → (y : List ℕ) → resume most p (take l p.pending.items ++ y) ≡ resume most q y
line_along k most l p q b rest s w none is opens done t e all y =
    rw (none, is, opens, done, t, all) (ap (nested_outcome most max_depth p.opens.items) (ap (λ o. and_then o (λ s rest. found (line_tree k s) rest)) ((line_cut b rest s e).same y)))

-- a line that is refused
pub line_refused : (k : Line) (most v : ℕ) (held : List ℕ) (p : PartialValue) (b rest : List ℕ) (w : Refusal) → p.done ≡ None → p.next ≡ nexts.Found (founds.Line k) → b ≡ take v p.pending.items → p.came ≤ max_text + 1 → v ≡ min (length p.pending.items) (max_text + 1 - p.came) → text_at [] b ≡ refused w rest → Reads most held p → value_at most max_depth (seen_of held) ≡ refused w (drop (p.came + (v - length rest)) (seen_of held))
line_refused k most v held p b rest w none is b_is few v_is e r =
    let q = refused_end IsTextLine InLine (text_at []) text-reads b rest w e in
    let len : length b ≡ v = omega (arith, ap length b_is, length-take-le v p.pending.items (omega (arith, v_is))) in
    let f : text_at [] (take v p.pending.items) ≡ refused w (drop (v - length rest) (take v p.pending.items)) = ap (text_at []) (sym b_is) ∙ e ∙ ap (refused w) (q.1 ∙ ap (λ z. drop (z - length rest) b) len ∙ ap (drop (v - length rest)) b_is) in
    reads_refused most held p v (v - length rest) w few v_is (rw (none, is) (ap (λ o. and_then o (λ s rest. found (line_tree k s) rest)) f)) r

pub line_end_inside : (v : ℕ) (xs rest : List ℕ) (w : Refusal) → text_at [] (take v xs) ≡ refused w rest → length rest ≤ v
line_end_inside v xs rest w e =
    let h = (refused_end IsTextLine InLine (text_at []) text-reads (take v xs) rest w e).0 in
    omega (arith, h, length-take v xs)

pub line_unfinished : (k : Line) (most v : ℕ) (held : List ℕ) (p : PartialValue) (b : List ℕ) → p.done ≡ None → p.next ≡ nexts.Found (founds.Line k) → b ≡ take v p.pending.items → p.came ≤ max_text + 1 → v ≡ min (length p.pending.items) (max_text + 1 - p.came) → text_at [] b ≡ unfinished → Reads most held p → value_at most max_depth (seen_of held) ≡ unfinished
line_unfinished k most v held p b none is b_is few v_is e r =
    let f : text_at [] (take v p.pending.items) ≡ unfinished = ap (text_at []) (sym b_is) ∙ e in
    reads_unfinished most held p v few v_is (rw (none, is) (ap (λ o. and_then o (λ s rest. found (line_tree k s) rest)) f)) r

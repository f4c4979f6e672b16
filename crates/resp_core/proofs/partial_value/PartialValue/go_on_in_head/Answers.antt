use Rattle.std.proofs.Common.{◌≡◌, ◌≤◌, ◌+◌, ◌-◌, min, ℕ, List, length, take, drop, None, refl, ap, arith}
use Rattle.std.proofs.lemmas.List.{length-take}
use Rattle.resp_core.specs.Grammar.{max_depth, max_text}
use Rattle.resp_core.specs.declared.partial_value.PartialValue.{PartialValue}
use Rattle.resp_core.specs.declared.head.Head.{Head}
use Rattle.resp_core.specs.declared.head.Next.{Next}
use Rattle.resp_core.specs.declared.head.Next.TheVariants as nexts
use Rattle.resp_core.specs.ResumedReading.{GoesOn}
use Rattle.resp_core.specs.PartialValue.{Reads}
use Rattle.resp_core.proofs.unfinished.ResumedReadingLemmas.{reads_on, head_goes_on, reads_refused, reads_unfinished}
use Rattle.resp_core.proofs.unfinished.HeadLemmas.{head_unfinished}
use Rattle.resp_core.proofs.partial_value.PartialValue.go_on_in_head.Goals as goal

-- so many bytes of a head were taken
on_to : (most : ℕ) (held : List ℕ) (p q : PartialValue) (h : Head) (next : Next) (items : List ℕ) (v k l : ℕ) → items ≡ p.pending.items → l ≡ length p.opens.items → k ≤ length (take v items) → GoesOn most (max_depth - l) h (take k (take v items)) next → p.done ≡ None → p.next ≡ nexts.Head h → q.pending.items ≡ drop k p.pending.items → q.opens.items ≡ p.opens.items → q.done ≡ None → q.next ≡ next → q.came ≡ p.came + k → Reads most held p → Reads most held q
on_to most held p q h next items v k l e f few g done is rest opens done' is' came r =
    let inside : k ≤ length p.pending.items = omega (arith, few, length-take v items, ap length e) in
    let seen : k ≤ v = omega (arith, few, length-take v items) in
    reads_on most held p q k inside rest came (head_goes_on most p q h next v k done is opens done' is' seen (rw (e, f) at g)) r

pub returns-in-Head-clause-reads : goal.returns-in-Head-clause-reads
returns-in-Head-clause-reads c = λ held r.
    on_to c.args.most held c.args.self.now _ c.args.head c.in-Ok.next c.as_slice.result.now c.min-visible.result c.in-Ok.taken c.len.result c.as_slice.ensures (omega (arith, c.len.ensures)) c.in-Ok.ensures.inside c.in-Ok.ensures.gives c.requires.head.0 c.requires.head.1 c.advance.ensures.items refl c.requires.head.0 refl refl r

pub returns-in-Head-clause-came : goal.returns-in-Head-clause-came
returns-in-Head-clause-came c = λ held r.
    let p = c.args.self.now in
    let e : c.as_slice.result.now ≡ p.pending.items = c.as_slice.ensures in
    let l : c.len.result ≡ length p.opens.items = omega (arith, c.len.ensures) in
    let v : c.min-visible.result ≡ min (length p.pending.items) (max_text + 1 - p.came) = omega (arith, c.min-visible.ensures, c.len-2.ensures.value) in
    let all = rw c.in-Head.is at c.in-Ok.ensures.all in
    let g = head_unfinished c.args.most (max_depth - length p.opens.items) c.in-Ok.taken c.args.head c.in-Head.field-0 (take c.min-visible.result p.pending.items) (rw (e, l, c.in-Head.is) at c.in-Ok.ensures.gives) (rw e at (all tt)) in
    reads_unfinished c.args.most held p c.min-visible.result (omega (arith, c.requires.good.came)) v (rw (c.requires.head.0, c.requires.head.1) g) r

pub returns-in-Found-clause-reads : goal.returns-in-Found-clause-reads
returns-in-Found-clause-reads c = λ held r.
    on_to c.args.most held c.args.self.now _ c.args.head c.in-Ok.next c.as_slice.result.now c.min-visible.result c.in-Ok.taken c.len.result c.as_slice.ensures (omega (arith, c.len.ensures)) c.in-Ok.ensures.inside c.in-Ok.ensures.gives c.requires.head.0 c.requires.head.1 c.advance.ensures.items refl c.requires.head.0 refl refl r

pub returns-in-Err-clause-halts : goal.returns-in-Err-clause-halts
returns-in-Err-clause-halts c = λ held r.
    let p = c.args.self.now in
    let e : c.as_slice.result.now ≡ p.pending.items = c.as_slice.ensures in
    let l : c.len.result ≡ length p.opens.items = omega (arith, c.len.ensures) in
    let h = c.in-Err.ensures.refused in
    let v : c.min-visible.result ≡ min (length p.pending.items) (max_text + 1 - p.came) = omega (arith, c.min-visible.ensures, c.len-2.ensures.value) in
    reads_refused c.args.most held p c.min-visible.result c.in-Err.field-0.1 c.in-Err.field-0.0 (omega (arith, c.requires.good.came)) v (rw (c.requires.head.0, c.requires.head.1) (rw (e, l) at h.1)) r

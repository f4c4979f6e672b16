use Rattle.std.proofs.Common.{◌≡◌, ◌≤◌, ◌+◌, ◌-◌, min, ℕ, [], length, take, refl, sym, ap, ◌∙◌, subst, arith}
use Rattle.resp_core.specs.ResumedReading.{line_tree}
use Rattle.resp_core.specs.Grammar.{max_text}
use Rattle.resp_core.specs.Reading.{text_at, unfinished}
use Rattle.resp_core.specs.SeenBytes.{IsSeen}
use Rattle.resp_core.proofs.unfinished.SeenBytesLemmas.{seen_but_last}
use Rattle.resp_core.proofs.unfinished.ResumedReadingLemmas.{reads_on}
use Rattle.resp_core.proofs.unfinished.LineLemmas.{cuts_line_at, line_along, line_refused, line_end_inside, line_unfinished}
use Rattle.resp_core.proofs.partial_value.PartialValue.take_line.Goals as goal

pub overflow_sub-taken : goal.overflow_sub-taken
overflow_sub-taken c =
    let few : c.min-visible.result ≤ length c.as_slice.result.now = omega (arith, c.min-visible.ensures, c.len.ensures.value, ap length c.as_slice.ensures) in
    (cuts_line_at c.min-visible.result _ c.as_slice.result.now c.in-Ok.rest.now c.in-Ok.text.now refl few c.in-Ok.ensures).inside

pub cut-requires : goal.cut-requires
cut-requires c =
    let few : c.min-visible.result ≤ length c.as_slice.result.now = omega (arith, c.min-visible.ensures, c.len.ensures.value, ap length c.as_slice.ensures) in
    let k = cuts_line_at c.min-visible.result _ c.as_slice.result.now c.in-Ok.rest.now c.in-Ok.text.now refl few c.in-Ok.ensures in
    record { inside = (omega (arith, k.len), omega (arith, few, ap length c.as_slice.ensures)) }

pub returns-in-Ok-cut-clause-reads : goal.returns-in-Ok-cut-clause-reads
returns-in-Ok-cut-clause-reads c = λ held r.
    let p = c.args.self.now in
    let q = c.finish.new.self in
    let f = c.finish.ensures in
    let v = c.min-visible.result in
    let k = v - length c.in-Ok.rest.now in
    let s = c.in-Ok.text.now in
    let few : v ≤ length p.pending.items = omega (arith, c.min-visible.ensures, c.len.ensures.value) in
    let b_is : take v c.as_slice.result.now ≡ take v p.pending.items = ap (take v) c.as_slice.ensures in
    let t = cuts_line_at v _ p.pending.items c.in-Ok.rest.now s b_is few c.in-Ok.ensures in
    reads_on c.args.most held p q k (omega (arith, few)) (ap (λ z. z.items) f.same.0 ∙ c.in-Ok-cut.ensures.rest) f.seen.1
    (line_along c.args.line c.args.most k p q _ c.in-Ok.rest.now s c.value.result c.requires.next.0 c.requires.next.1 (ap (λ z. z.items) f.same.1) f.done (c.value.ensures ∙ ap (line_tree c.args.line) (c.in-Ok-cut.ensures.front ∙ t.front)) c.in-Ok.ensures t.all) r

pub returns-in-Err-Unfinished-clause-none : goal.returns-in-Err-Unfinished-clause-none
returns-in-Err-Unfinished-clause-none c = λ _.
    let p = c.args.self.now in
    let v = c.min-visible.result in
    let v_is : v ≡ min (length p.pending.items) (max_text + 1 - p.came) = omega (arith, c.min-visible.ensures, c.len.ensures.value) in
    λ held r. line_unfinished c.args.line c.args.most v held p _ c.requires.next.0 c.requires.next.1 (ap (take v) c.as_slice.ensures) (omega (arith, c.requires.good.came)) v_is (rw c.in-Err-Unfinished.field-0-is at c.in-Err-Unfinished.ensures) r

pub overflow_sub-place : goal.overflow_sub-place
overflow_sub-place c =
    rw c.in-Err-Refused.rest-is (line_end_inside c.min-visible.result c.as_slice.result.now _ _ (rw c.in-Err-Refused.field-0-is at c.in-Err-Refused.ensures))

pub returns-in-Err-Refused-clause-halts : goal.returns-in-Err-Refused-clause-halts
returns-in-Err-Refused-clause-halts c = λ held r.
    let p = c.args.self.now in
    let v = c.min-visible.result in
    let v_is : v ≡ min (length p.pending.items) (max_text + 1 - p.came) = omega (arith, c.min-visible.ensures, c.len.ensures.value) in
    rw (c.in-Err-Refused.rest-is, c.in-Err-Refused.refusal-is) (line_refused c.args.line c.args.most v held p _ _ _ c.requires.next.0 c.requires.next.1 (ap (take v) c.as_slice.ensures) (omega (arith, c.requires.good.came)) v_is (rw c.in-Err-Refused.field-0-is at c.in-Err-Refused.ensures) r)

pub returns-in-Err-Unfinished-clause-good : goal.returns-in-Err-Unfinished-clause-good
returns-in-Err-Unfinished-clause-good c =
    let p = c.args.self.now in
    let g = c.requires.good in
    let v = c.min-visible.result in
    let few : v ≤ length p.pending.items = omega (arith, c.min-visible.ensures, c.len.ensures.value) in
    let e : text_at [] (take v p.pending.items) ≡ unfinished = ap (λ z. text_at [] (take v z)) (sym c.as_slice.ensures) ∙ rw c.in-Err-Unfinished.field-0-is at c.in-Err-Unfinished.ensures in
    let sub : c.saturating_sub-self.result ≡ v - 1 = omega (arith, c.saturating_sub-self.ensures) in
    record {
      few = g.few;
      next = g.next;
      seen = subst (λ (z : ℕ). IsSeen z p.pending.items) (sym sub) (seen_but_last v p.pending.items few e);
      came = omega (arith, g.came, sub, c.min-visible.ensures);
      done = g.done;
      needed = g.needed;
    }

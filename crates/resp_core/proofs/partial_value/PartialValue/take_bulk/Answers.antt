use Rattle.std.proofs.Common.{◌≡◌, ◌≤◌, ◌+◌, ◌-◌, min, length, take, refl, ap, ◌∙◌, arith}
use Rattle.resp_core.specs.Tree.{bulk}
use Rattle.resp_core.specs.Grammar.{max_text}
use Rattle.resp_core.specs.declared.value.Value.TheVariants as variants
use Rattle.resp_core.proofs.unfinished.ResumedReadingLemmas.{cuts_at, reads_on, bulk_along, payload_refused, payload_end_inside, payload_unfinished}
use Rattle.resp_core.proofs.partial_value.PartialValue.take_bulk.Goals as goal

pub overflow_sub-taken : goal.overflow_sub-taken
overflow_sub-taken c =
    let few : c.min-visible.result ≤ length c.as_slice.result.now = omega (arith, c.min-visible.ensures, c.len.ensures.value, ap length c.as_slice.ensures) in
    (cuts_at c.args.n c.min-visible.result _ c.as_slice.result.now c.in-Ok.rest.now c.in-Ok.payload.now refl few c.in-Ok.ensures).inside

pub cut-requires : goal.cut-requires
cut-requires c =
    let few : c.min-visible.result ≤ length c.as_slice.result.now = omega (arith, c.min-visible.ensures, c.len.ensures.value, ap length c.as_slice.ensures) in
    let k = cuts_at c.args.n c.min-visible.result _ c.as_slice.result.now c.in-Ok.rest.now c.in-Ok.payload.now refl few c.in-Ok.ensures in
    record { inside = (omega (arith, k.len), omega (arith, few, ap length c.as_slice.ensures)) }

pub returns-in-Ok-cut-clause-reads : goal.returns-in-Ok-cut-clause-reads
returns-in-Ok-cut-clause-reads c = λ held r.
    let p = c.args.self.now in
    let q = c.finish.new.self in
    let f = c.finish.ensures in
    let v = c.min-visible.result in
    let k = v - length c.in-Ok.rest.now in
    let s = c.in-Ok.payload.now in
    let few : v ≤ length p.pending.items = omega (arith, c.min-visible.ensures, c.len.ensures.value) in
    let b_is : take v c.as_slice.result.now ≡ take v p.pending.items = ap (take v) c.as_slice.ensures in
    let t = cuts_at c.args.n v _ p.pending.items c.in-Ok.rest.now s b_is few c.in-Ok.ensures in
    reads_on c.args.most held p q k (omega (arith, few)) (ap (λ z. z.items) f.same.0 ∙ c.in-Ok-cut.ensures.rest) f.seen.1
    (bulk_along c.args.most c.args.n k p q _ c.in-Ok.rest.now s (variants.Bulk c.new.result) c.requires.next.0 c.requires.next.1 (ap (λ z. z.items) f.same.1) f.done (ap bulk (c.new.ensures ∙ c.in-Ok-cut.ensures.front ∙ t.front)) c.in-Ok.ensures t.all) r

pub returns-in-Err-Unfinished-clause-none : goal.returns-in-Err-Unfinished-clause-none
returns-in-Err-Unfinished-clause-none c = λ _.
    let p = c.args.self.now in
    let v = c.min-visible.result in
    let v_is : v ≡ min (length p.pending.items) (max_text + 1 - p.came) = omega (arith, c.min-visible.ensures, c.len.ensures.value) in
    λ held r. payload_unfinished c.args.most c.args.n v held p _ c.requires.next.0 c.requires.next.1 (ap (take v) c.as_slice.ensures) (omega (arith, c.requires.good.came)) v_is (rw c.in-Err-Unfinished.field-0-is at c.in-Err-Unfinished.ensures) r

pub overflow_sub-place : goal.overflow_sub-place
overflow_sub-place c =
    rw c.in-Err-Refused.rest-is (payload_end_inside c.args.n c.min-visible.result c.as_slice.result.now _ _ (rw c.in-Err-Refused.field-0-is at c.in-Err-Refused.ensures))

pub returns-in-Err-Refused-clause-halts : goal.returns-in-Err-Refused-clause-halts
returns-in-Err-Refused-clause-halts c = λ held r.
    let p = c.args.self.now in
    let v = c.min-visible.result in
    let v_is : v ≡ min (length p.pending.items) (max_text + 1 - p.came) = omega (arith, c.min-visible.ensures, c.len.ensures.value) in
    rw (c.in-Err-Refused.rest-is, c.in-Err-Refused.refusal-is) (payload_refused c.args.most c.args.n v held p _ _ _ c.requires.next.0 c.requires.next.1 (ap (take v) c.as_slice.ensures) (omega (arith, c.requires.good.came)) v_is (rw c.in-Err-Refused.field-0-is at c.in-Err-Refused.ensures) r)

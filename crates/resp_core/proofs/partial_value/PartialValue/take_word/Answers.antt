use Rattle.std.proofs.Common.{◌≡◌, ◌≤◌, ◌+◌, ◌-◌, length, take, drop, decimal, refl, sym, ap, ◌∙◌, arith}
use Rattle.std.proofs.lemmas.List.{drop-drop, length-drop}
use Rattle.std.proofs.lemmas.Fmt.{length-decimal-le}
use Rattle.resp_core.specs.Tree.{bulk}
use Rattle.resp_core.specs.Grammar.{max_depth}
use Rattle.resp_core.specs.ResumedReading.{GoesOn}
use Rattle.resp_core.specs.declared.value.Value.TheVariants as variants
use Rattle.resp_core.specs.declared.head.Next.TheVariants as nexts
use Rattle.resp_core.specs.declared.head.Head.TheVariants as heads
use Rattle.resp_core.specs.declared.head.Found.TheVariants as founds
use Rattle.resp_core.proofs.unfinished.WordLemmas.{is_looked, word_read}
use Rattle.resp_core.proofs.partial_value.PartialValue.take_word.Goals as goal

pub overflow_sub-len : goal.overflow_sub-len
overflow_sub-len c =
    let v = c.min-visible.result in
    let n = c.in-Some.n in
    let head = c.in-Some.head in
    let looked = c.as_slice.result.now in
    let inside : v ≤ length looked = omega (arith, c.min-visible.ensures, c.len-2.ensures.value, ap length c.as_slice.ensures) in
    let places : head ≡ length (decimal n) + 3 =
    omega (arith, c.if-head-saturating_add.false, c.saturating_add.ensures, c.digits.ensures, length-decimal-le 20 n (omega arith) (omega (arith, c.in-Some.ensures.good)) (omega (arith, c.in-Some.ensures.good))) in
    let l = is_looked c.args.most _ n v head looked c.in-Ok.rest.now c.in-Ok.field-0-0.now inside c.in-Some.ensures.inside.1 c.in-Some.ensures.gives c.in-Ok.ensures c.in-Some.ensures.good places in
    omega (arith, l.cut.inside, l.few)

pub overflow_cast-head : goal.overflow_cast-head
overflow_cast-head c =
    let v = c.min-visible.result in
    let n = c.in-Some.n in
    let head = c.in-Some.head in
    let looked = c.as_slice.result.now in
    let inside : v ≤ length looked = omega (arith, c.min-visible.ensures, c.len-2.ensures.value, ap length c.as_slice.ensures) in
    let places : head ≡ length (decimal n) + 3 =
    omega (arith, c.if-head-saturating_add.false, c.saturating_add.ensures, c.digits.ensures, length-decimal-le 20 n (omega arith) (omega (arith, c.in-Some.ensures.good)) (omega (arith, c.in-Some.ensures.good))) in
    let l = is_looked c.args.most _ n v head looked c.in-Ok.rest.now c.in-Ok.field-0-0.now inside c.in-Some.ensures.inside.1 c.in-Some.ensures.gives c.in-Ok.ensures c.in-Some.ensures.good places in
    omega (arith, l.small)

pub in_text-requires : goal.in_text-requires
in_text-requires c =
    let v = c.min-visible.result in
    let n = c.in-Some.n in
    let head = c.in-Some.head in
    let looked = c.as_slice.result.now in
    let inside : v ≤ length looked = omega (arith, c.min-visible.ensures, c.len-2.ensures.value, ap length c.as_slice.ensures) in
    let places : head ≡ length (decimal n) + 3 =
    omega (arith, c.if-head-saturating_add.false, c.saturating_add.ensures, c.digits.ensures, length-decimal-le 20 n (omega arith) (omega (arith, c.in-Some.ensures.good)) (omega (arith, c.in-Some.ensures.good))) in
    let l = is_looked c.args.most _ n v head looked c.in-Ok.rest.now c.in-Ok.field-0-0.now inside c.in-Some.ensures.inside.1 c.in-Some.ensures.gives c.in-Ok.ensures c.in-Some.ensures.good places in
    let front = c.in_ok-text.ensures.front ∙ ap (take (v - length c.in-Ok.rest.now)) (sym c.as_slice.ensures) in
    (c.in-Ok.field-0-0.now, front ∙ l.word.text, omega (arith, l.word.places, ap length front))

pub returns-clause-word : goal.returns-clause-word
returns-clause-word c =
    let v = c.min-visible.result in
    let n = c.in-Some.n in
    let head = c.in-Some.head in
    let looked = c.as_slice.result.now in
    let inside : v ≤ length looked = omega (arith, c.min-visible.ensures, c.len-2.ensures.value, ap length c.as_slice.ensures) in
    let places : head ≡ length (decimal n) + 3 =
    omega (arith, c.if-head-saturating_add.false, c.saturating_add.ensures, c.digits.ensures, length-decimal-le 20 n (omega arith) (omega (arith, c.in-Some.ensures.good)) (omega (arith, c.in-Some.ensures.good))) in
    let l = is_looked c.args.most _ n v head looked c.in-Ok.rest.now c.in-Ok.field-0-0.now inside c.in-Some.ensures.inside.1 c.in-Some.ensures.gives c.in-Ok.ensures c.in-Some.ensures.good places in
    let p = c.args.self.now in
    let items = p.pending.items in
    let rest = c.in-Ok.rest.now in
    let s = c.in-Ok.field-0-0.now in
    let k = v - head - length rest in
    let next : p.next ≡ nexts.Head heads.Type = c.in-Head.is ∙ ap nexts.Head c.in-Type.is in
    let left : c.len.result ≡ length p.opens.items = omega (arith, c.len.ensures) in
    let gives : GoesOn c.args.most (max_depth - length p.opens.items) heads.Type (take head (take v items)) (nexts.Found (founds.Payload n)) =
    rw (c.as_slice.ensures, left) at l.gives in
    let e = rw c.as_slice.ensures at l.reads in
    let front = c.in_ok-text.ensures.front ∙ ap (take (v - length rest)) (sym c.as_slice.ensures) in
    let word = c.in_text.ensures s (front ∙ l.word.text) (omega (arith, l.word.places, ap length front)) in
    let all : v - length rest ≡ head + k = omega (arith, l.cut.inside, l.few) in
    let behind = c.in_ok-text.ensures.rest ∙ ap (λ z. drop z items) all ∙ sym (drop-drop k head items) in (
      (λ held r. word_read c.args.most n v head k held _ p _ rest s (variants.Bulk c.in_text.result) c.requires.done next (omega (arith, inside, ap length c.as_slice.ensures)) l.few gives refl e refl (ap bulk word) behind refl refl (omega (arith, all)) r),
      next,
      omega (arith, inside, ap length c.as_slice.ensures, l.few, l.cut.len, c.in-Some.ensures.inside.0, ap length behind, length-drop k (drop head items), length-drop head items),
    )

use Rattle.std.proofs.Common.{◌≡◌, ◌<◌, ◌+◌, true, false, length, filter, drop, get_or, sym, ap, ◌∙◌, arith}
use Rattle.proxy_history.specs.Part.{is_of, is_same}
use Rattle.test_reference.specs.Scan.{part_of, parts_of, place_in}
use Rattle.test_reference.proofs.PartSearchLemmas.{place-here, place-later, place-other, none_left, moved, moved-zero, moved-here, moved-more, moved-none}
use Rattle.test_reference.proofs.pipe.place.Goals as goal
use Rattle.test_reference.proofs.pipe.place.Goals.{then-is_of+else-is_same, else-is_of}

pub loop-other-init : goal.loop-other-init
loop-other-init c = record {
  place = sym (moved-zero (place_in (part_of c.args.part.now) (filter (is_of c.args.host c.args.part.now.epoch) (parts_of c.args.replay.now.sent.items))));
  few = omega arith;
}

pub returns-then-is_same : goal.returns-then-is_same
returns-then-is_same c = λ steps.
    let items = c.deref-other-items.ensures.value in
    let test = is_of c.args.host c.args.part.now.epoch in
    let q = part_of c.args.part.now in
    let is = c.other-item.is ∙ ap (λ z. get_or z c.loop-other.other-index c.other-item.result) items in
    let inside : c.loop-other.other-index < length c.args.replay.now.sent.items = omega (arith, c.loop-other-test.true, ap length items) in
    let passes : test (part_of (get_or c.args.replay.now.sent.items c.loop-other.other-index c.other-item.result)) ≡ true = ap (λ z. test (part_of z)) (sym is) ∙ sym c.is_of.ensures ∙ c.if-is_of.true in
    let same : is_same q (part_of (get_or c.args.replay.now.sent.items c.loop-other.other-index c.other-item.result)) ≡ true = ap (λ z. is_same q (part_of z)) (sym is) ∙ sym c.is_same.ensures ∙ c.if-is_same.true in
    sym (c.loop-other.invariant.place ∙ ap (moved c.loop-other.before) (place-here c.args.replay.now.sent.items c.loop-other.other-index c.other-item.result inside test q passes same) ∙ moved-here c.loop-other.before)

pub loop-other-preserved : goal.loop-other-preserved
loop-other-preserved c =
    let items = c.deref-other-items.ensures.value in
    let test = is_of c.args.host c.args.part.now.epoch in
    let q = part_of c.args.part.now in
    let is = c.other-item.is ∙ ap (λ z. get_or z c.loop-other.other-index c.other-item.result) items in
    let inside : c.loop-other.other-index < length c.args.replay.now.sent.items = omega (arith, c.loop-other-test.true, ap length items) in
    let told : test (part_of (get_or c.args.replay.now.sent.items c.loop-other.other-index c.other-item.result)) ≡ c.is_of.result = ap (λ z. test (part_of z)) (sym is) ∙ sym c.is_of.ensures in
    let rest = place_in q (filter test (parts_of (drop (c.loop-other.other-index + 1) c.args.replay.now.sent.items))) in
    elim c.if-is_of.branch [
      | then-is_of+else-is_same w ↦
          let other : is_same q (part_of (get_or c.args.replay.now.sent.items c.loop-other.other-index c.other-item.result)) ≡ false = ap (λ z. is_same q (part_of z)) (sym is) ∙ sym w.is_same.ensures ∙ w.if-is_same.false in
          record {
            place = c.loop-other.invariant.place ∙ ap (moved c.loop-other.before) (place-later c.args.replay.now.sent.items c.loop-other.other-index c.other-item.result inside test q (told ∙ w.if-is_of.true) other)
                ∙ moved-more c.loop-other.before rest ∙ ap (λ z. moved z rest) (sym w.before-is);
            few = omega (arith, w.before-is, c.loop-other.invariant.few);
          }
      | else-is_of w ↦ record {
        place = c.loop-other.invariant.place ∙ ap (moved c.loop-other.before) (place-other c.args.replay.now.sent.items c.loop-other.other-index c.other-item.result inside test q (told ∙ w.if-is_of.false))
            ∙ ap (λ z. moved z rest) (sym w.before-is);
        few = omega (arith, w.before-is, c.loop-other.invariant.few);
      }
    ]

pub returns : goal.returns
returns c = λ steps.
    let items = c.deref-other-items.ensures.value in
    let test = is_of c.args.host c.args.part.now.epoch in
    let q = part_of c.args.part.now in
    sym (c.loop-other.invariant.place ∙ ap (λ z. moved c.loop-other.before (place_in q (filter test z))) (none_left c.args.replay.now.sent.items c.loop-other.other-index (omega (arith, c.loop-other-test.false, ap length items))) ∙ moved-none c.loop-other.before)

use Rattle.std.proofs.Common.{◌≡◌, ◌<◌, ◌+◌, [], length, get_or, sym, ap, ◌∙◌, arith}
use Rattle.proxy_history.specs.Waiting.{waits}
use Rattle.test_reference.specs.Scan.{part_of, past_of_scan}
use Rattle.test_reference.proofs.PartSearchLemmas.{count-one, count-none}
use Rattle.test_reference.proofs.pipe.waiting.Goals as goal
use Rattle.test_reference.proofs.pipe.waiting.Goals.{then-waits, else-waits}

pub loop-part-preserved : goal.loop-part-preserved
loop-part-preserved c =
    let items = c.deref-part-items.ensures.value in
    let test = waits c.args.host (past_of_scan c.args.steps.now [] c.args.replay.now) in
    let is = c.part-item.is ∙ ap (λ z. get_or z c.loop-part.part-index c.part-item.result) items in
    let inside : c.loop-part.part-index < length c.args.replay.now.parts.items = omega (arith, c.loop-part-test.true, ap length items) in
    let told : test (part_of (get_or c.args.replay.now.parts.items c.loop-part.part-index c.part-item.result)) ≡ c.waits.result = ap (λ z. test (part_of z)) (sym is) ∙ sym c.waits.ensures in
    elim c.if-waits.branch [
      | then-waits w ↦ record {
        count = w.count-is ∙ ap (λ z. z + 1) c.loop-part.invariant.count ∙ sym (count-one c.args.replay.now.parts.items c.loop-part.part-index c.part-item.result inside test (told ∙ w.if-waits.true));
        few = omega (arith, w.count-is, c.loop-part.invariant.few);
      }
      | else-waits w ↦ record {
        count = w.count-is ∙ c.loop-part.invariant.count ∙ sym (count-none c.args.replay.now.parts.items c.loop-part.part-index c.part-item.result inside test (told ∙ w.if-waits.false));
        few = omega (arith, w.count-is, c.loop-part.invariant.few);
      }
    ]

use Rattle.std.proofs.Common.{◌≡◌, ◌<◌, [], true, false, Some, length, get_or, sym, ap, ◌∙◌, arith}
use Rattle.proxy_history.specs.Waiting.{waits}
use Rattle.test_reference.specs.Scan.{part_of, past_of_scan}
use Rattle.test_reference.proofs.PartSearchLemmas.{first-here, first-later}
use Rattle.test_reference.proofs.pipe.first_waiting.Goals as goal

pub returns-then-waits : goal.returns-then-waits
returns-then-waits c =
    let items = c.deref-part-items.ensures.value in
    let test = waits c.args.host (past_of_scan c.args.steps.now [] c.args.replay.now) in
    let is = c.part-item.is ∙ ap (λ z. get_or z c.loop-part.part-index c.part-item.result) items in
    let inside : c.loop-part.part-index < length c.args.replay.now.parts.items = omega (arith, c.loop-part-test.true, ap length items) in
    let passes : test (part_of (get_or c.args.replay.now.parts.items c.loop-part.part-index c.part-item.result)) ≡ true = ap (λ z. test (part_of z)) (sym is) ∙ sym c.waits.ensures ∙ c.if-waits.true in
    ap (λ z. Some (part_of z)) is ∙ sym (c.loop-part.invariant ∙ first-here c.args.replay.now.parts.items c.loop-part.part-index c.part-item.result inside test passes)

pub loop-part-preserved : goal.loop-part-preserved
loop-part-preserved c =
    let items = c.deref-part-items.ensures.value in
    let test = waits c.args.host (past_of_scan c.args.steps.now [] c.args.replay.now) in
    let is = c.part-item.is ∙ ap (λ z. get_or z c.loop-part.part-index c.part-item.result) items in
    let inside : c.loop-part.part-index < length c.args.replay.now.parts.items = omega (arith, c.loop-part-test.true, ap length items) in
    let fails : test (part_of (get_or c.args.replay.now.parts.items c.loop-part.part-index c.part-item.result)) ≡ false = ap (λ z. test (part_of z)) (sym is) ∙ sym c.waits.ensures ∙ c.if-waits.false in
    c.loop-part.invariant ∙ first-later c.args.replay.now.parts.items c.loop-part.part-index c.part-item.result inside test fails

use Rattle.std.proofs.Common.{◌<◌, ◌+◌, ◌∙◌, List, length, ap, sym, subst, arith}
use Rattle.resp_core.specs.Tree.{bulk}
use Rattle.resp_core.specs.Command.{word}
use Rattle.resp_core.specs.declared.value.Value.{Value}
use Rattle.resp_core.specs.declared.value.Value.TheVariants as values
use Rattle.resp_core.proofs.SpelledCommandLemmas.{AreSlices, slices_next, texts_next, word_is}
use Rattle.resp_core.proofs.spelled_command.SpelledCommand.value.Goals as goal

pub take_bulk-requires : goal.take_bulk-requires
take_bulk-requires c =
    let less : c.loop.counter < length c.args.self.now = omega (arith, c.loop-test.true, c.count-count.ensures.count) in
    word_is c.args.self.now c.loop.counter c.loop.rest less (c.shared_words.ensures.few c.loop.counter less) c.loop.invariant.behind

pub loop-preserved : goal.loop-preserved
loop-preserved c =
    let ws = c.args.self.now in
    let at = c.loop.counter in
    let less : at < length ws = omega (arith, c.loop-test.true, c.count-count.ensures.count) in
    let taken = c.in_ok-take_bulk.ensures (word ws at) _ (c.loop.invariant.behind ∙ texts_next ws at less) (c.shared_words.ensures.few at less) in
    let v = values.Bulk c.in_ok-take_bulk.field-0 in
    subst (λ (z : List Value). AreSlices ws (at + 1) z c.take_bulk.new.bytes) (sym c.in_ok-push.ensures.items)
    (slices_next ws at c.loop.words.items v c.loop.rest c.take_bulk.new.bytes c.loop.invariant less (ap bulk taken.0) taken.1)

use Rattle.std.proofs.Common.{◌≡◌, ◌<◌, length, ◌∙◌, ap, arith}
use Rattle.resp_core.specs.Command.{word}
use Rattle.resp_core.proofs.SpelledCommandLemmas.{texts_next, word_is}
use Rattle.resp_core.proofs.spelled_command.SpelledCommand.word.Goals as goal

pub split_bulk-requires : goal.split_bulk-requires
split_bulk-requires c =
    let less : c.loop.counter < length c.args.self.now = omega (arith, c.loop-test.true, c.requires) in
    word_is c.args.self.now c.loop.counter c.loop.rest.now less (c.words-rest.ensures.few c.loop.counter less) c.loop.invariant

pub loop-preserved : goal.loop-preserved
loop-preserved c =
    let less : c.loop.counter < length c.args.self.now = omega (arith, c.loop-test.true, c.requires) in
    (c.split_bulk.ensures _ _ (c.loop.invariant ∙ texts_next c.args.self.now c.loop.counter less) (c.words-rest.ensures.few c.loop.counter less)).1

pub split_bulk-requires-2 : goal.split_bulk-requires-2
split_bulk-requires-2 c =
    let less : c.loop.counter < length c.args.self.now = omega (arith, c.loop.auto.counter-end, c.requires) in
    word_is c.args.self.now c.loop.counter c.loop.rest.now less (c.words-rest.ensures.few c.loop.counter less) c.loop.invariant

pub returns : goal.returns
returns c =
    let same : c.loop.counter ≡ c.args.at = omega (arith, c.loop-test.false, c.loop.auto.counter-end) in
    let less : c.loop.counter < length c.args.self.now = omega (arith, c.loop.auto.counter-end, c.requires) in
    (c.split_bulk-2.ensures _ _ (c.loop.invariant ∙ texts_next c.args.self.now c.loop.counter less) (c.words-rest.ensures.few c.loop.counter less)).0
    ∙ ap (word c.args.self.now) same

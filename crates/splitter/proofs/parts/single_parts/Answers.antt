use Rattle.std.proofs.Common.{◌+◌, ◌++◌, ℕ, List, map, drop, ap, ◌∙◌, arith}
use Rattle.resp_core.specs.Tree.{bulk}
use Rattle.resp_core.specs.Text.{text}
use Rattle.resp_core.specs.Command.{payload_of}
use Rattle.splitter.specs.declared.plans.PartPlan.{PartPlan}
use Rattle.splitter.specs.Part.{part_of}
use Rattle.splitter.proofs.PartTextLemmas.{words_length, keys_more, keys_all}
use Rattle.splitter.proofs.parts.single_parts.Goals as goal

pub loop-at-preserved : goal.loop-at-preserved
loop-at-preserved c =
    let words = map payload_of c.args.words.now in
    let f : List ℕ → PartPlan = λ key. part_of key (c.args.head.now ++ text (bulk key)) in
    let inside = words_length c.words.inside.0.items c.args.words.now c.words.view_is in
    ap (λ z. z ++ map f (drop (c.loop-at.at + 1) words)) c.in_ok-push.ensures.items
    ∙ keys_more f c.loop-at.parts.items (map f (drop 1 words)) c.in_ok-key_part.field-0 words c.loop-at.at (omega (arith, inside, c.loop-at-test.true, c.len-at-end.ensures, c.words.inside.0.ok.0))
    (c.in_ok-key_part.ensures.part ∙ ap f c.word.ensures) c.loop-at.invariant

pub returns-clause-parts : goal.returns-clause-parts
returns-clause-parts c =
    let words = map payload_of c.args.words.now in
    let f : List ℕ → PartPlan = λ key. part_of key (c.args.head.now ++ text (bulk key)) in
    let inside = words_length c.words.inside.0.items c.args.words.now c.words.view_is in
    keys_all f c.loop-at.parts.items (map f (drop 1 words)) words c.loop-at.at (omega (arith, inside, c.loop-at-test.false, c.len-at-end.ensures, c.words.inside.0.ok.0)) c.loop-at.invariant

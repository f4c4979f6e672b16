use Rattle.std.proofs.Common.{◌+◌, ◌*◌, ◌++◌, ℕ, List, [], ◌∷◌, map, drop, ap, ◌∙◌, arith, codes}
use Rattle.resp_core.specs.Tree.{bulk}
use Rattle.resp_core.specs.Text.{text}
use Rattle.resp_core.specs.Command.{payload_of, word}
use Rattle.splitter.specs.declared.plans.PartPlan.{PartPlan}
use Rattle.splitter.specs.Split.{pairs, part_at}
use Rattle.splitter.specs.Part.{head_of, part_of}
use Rattle.splitter.proofs.PartTextLemmas.{words_length, pair_part-is, pairs_more, pairs_all}
use Rattle.splitter.proofs.parts.pair_parts.Goals as goal

pub loop-pair-preserved : goal.loop-pair-preserved
loop-pair-preserved c =
    let words = map payload_of c.args.words.now in
    let f : List ℕ × List ℕ → PartPlan = λ p. part_at 1 (codes "SET" ∷ p.0 ∷ p.1 ∷ []) in
    let inside = words_length c.words.inside.0.items c.args.words.now c.words.view_is in
    let key = c.word-key.result.now in
    let value = c.word-value.result.now in
    ap (λ z. z ++ map f (pairs (drop (2 * (c.loop-pair.pair + 1) + 1) words))) c.in_ok-push.ensures.items
    ∙ pairs_more f c.loop-pair.parts.items (map f (pairs (drop 1 words))) c.in_ok-pair_part.field-0 words c.loop-pair.pair (omega (arith, inside, c.loop-pair-test.true, c.len.ensures, c.words.inside.0.ok.0))
    (c.in_ok-pair_part.ensures.part ∙ ap (λ z. part_of key (z ++ text (bulk key) ++ text (bulk value))) (c.as_slice.ensures.value ∙ c.in_ok-head.ensures.text ∙ ap (head_of 3) c.from_static.ensures) ∙ pair_part-is (codes "SET") key value
    ∙ ap (λ z. f (z, value)) c.word-key.ensures ∙ ap (λ z. f (word words (2 * c.loop-pair.pair + 1), z)) c.word-value.ensures) c.loop-pair.invariant

pub returns-clause-parts : goal.returns-clause-parts
returns-clause-parts c =
    let words = map payload_of c.args.words.now in
    let f : List ℕ × List ℕ → PartPlan = λ p. part_at 1 (codes "SET" ∷ p.0 ∷ p.1 ∷ []) in
    let inside = words_length c.words.inside.0.items c.args.words.now c.words.view_is in
    pairs_all f c.loop-pair.parts.items (map f (pairs (drop 1 words))) words c.loop-pair.pair (omega (arith, inside, c.loop-pair-test.false, c.len.ensures, c.words.inside.0.ok.0)) c.loop-pair.invariant

use Rattle.std.proofs.Common.{◌≡◌, ◌∙◌, [], ◌∷◌, ap, sym, true, subst}
use Rattle.resp_core.specs.Tree.{Tree, is_plain_tree}
use Rattle.resp_core.specs.Value.{tree_of}
use Rattle.splitter.specs.Plan.{parts}
use Rattle.splitter.specs.declared.plans.Join.TheVariants.{Same}
use Rattle.splitter.proofs.PartTextLemmas.{plain_words, whole_part-is}
use Rattle.splitter.proofs.parts.whole_part.Goals as goal

pub text_of-requires : goal.text_of-requires
text_of-requires c =
    subst (λ (z : Tree). is_plain_tree z ≡ true) (sym c.requires.array) (plain_words c.args.words.now c.requires.words)

pub returns-clause-parts : goal.returns-clause-parts
returns-clause-parts c =
    ap (λ z. parts Same (z ∷ []))
    (whole_part-is (tree_of c.args.command.now) c.args.words.now c.as_slice.result.now c.in_ok-text_of.field-0 c.args.key_at c.requires.words c.requires.array (c.as_slice.ensures ∙ c.word.ensures) c.in_ok-text_of.ensures)

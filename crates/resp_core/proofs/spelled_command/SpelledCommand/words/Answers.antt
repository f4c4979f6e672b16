use Rattle.std.proofs.Common.{◌≤◌, ◌<◌, ℕ, List, length, ◌∙◌, ap, map, subst}
use Rattle.resp_core.specs.Tree.{bulk, trees_of}
use Rattle.resp_core.specs.Text.{texts}
use Rattle.resp_core.specs.Command.{word}
use Rattle.resp_core.specs.Grammar.{max_bulk}
use Rattle.resp_core.proofs.SpelledCommandLemmas.{word_short, words_behind}
use Rattle.resp_core.proofs.spelled_command.SpelledCommand.words.Goals as goal

pub split_at-requires : goal.split_at-requires
split_at-requires c = (words_behind _ c.as_slice.result.now _ c.self.invariant c.as_slice.ensures).0

pub returns-clause-texts : goal.returns-clause-texts
returns-clause-texts c =
    c.split_at.ensures.back ∙ (words_behind _ c.as_slice.result.now _ c.self.invariant c.as_slice.ensures).1
    ∙ ap (λ z. texts (trees_of (map bulk z))) c.self.view_is

pub returns-clause-few : goal.returns-clause-few
returns-clause-few c =
    subst (λ (z : List (List ℕ)). (at : ℕ) → at < length z → length (word z at) ≤ max_bulk) c.self.view_is
    (λ at less. word_short _ _ at c.self.invariant less)

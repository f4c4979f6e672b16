use Rattle.std.proofs.Common.{◌≤◌, ◌<◌, ℕ, List, length, ◌∙◌, ap, map, subst}
use Rattle.resp_core.specs.Tree.{bulk, trees_of}
use Rattle.resp_core.specs.Text.{texts}
use Rattle.resp_core.specs.Command.{word}
use Rattle.resp_core.specs.Grammar.{max_bulk}
use Rattle.resp_core.proofs.SpelledCommandLemmas.{word_short, words_behind}
use Rattle.resp_core.proofs.spelled_command.SpelledCommand.shared_words.Goals as goal

pub advance-requires : goal.advance-requires
advance-requires c = (words_behind _ c.in_ok-words.words _ c.self.invariant c.in_ok-words.ensures.cases).0

pub returns-clause-texts : goal.returns-clause-texts
returns-clause-texts c =
    c.advance.ensures ∙ (words_behind _ c.in_ok-words.words _ c.self.invariant c.in_ok-words.ensures.cases).1
    ∙ ap (λ z. texts (trees_of (map bulk z))) c.self.view_is

pub returns-clause-few : goal.returns-clause-few
returns-clause-few c =
    subst (λ (z : List (List ℕ)). (at : ℕ) → at < length z → length (word z at) ≤ max_bulk) c.self.view_is
    (λ at less. word_short _ _ at c.self.invariant less)

pub returns-in_err-words-clause-few : goal.returns-in_err-words-clause-few
returns-in_err-words-clause-few c =
    subst (λ (z : List (List ℕ)). (at : ℕ) → at < length z → length (word z at) ≤ max_bulk) c.self.view_is
    (λ at less. word_short _ _ at c.self.invariant less)

use Rattle.std.proofs.Common.{◌≡◌, ◌∙◌, sym, ap}
use Rattle.resp_core.specs.Command.{word, words_of, payload_of}
use Rattle.resp_core.proofs.CallerLemmas.{words_of-list, words_of_command, command_of_is_command}
use Rattle.close_behind.proofs.close_behind.command_name.Goals as goal

pub returns-in-Some-clause-some : goal.returns-in-Some-clause-some
returns-in-Some-clause-some c =
    let (is_command, _, is_array) = c.in-Some.ensures.command in
    rw c.in-Read.is (is_command, c.as_slice.ensures ∙ c.word.ensures ∙ ap (λ z. word z 0) (sym (ap words_of is_array ∙ words_of-list c.in-Some.words.now)))

pub returns-in-Spelled-clause-some : goal.returns-in-Spelled-clause-some
returns-in-Spelled-clause-some c =
    rw c.in-Spelled.is (command_of_is_command c.in-Spelled.command c.first_word.ensures.some, c.first_word.ensures.word ∙ ap (λ z. word z 0) (sym (words_of_command c.in-Spelled.command)))

use Rattle.std.proofs.Common.{List, ℕ, ◌∙◌, sym, ap}
use Rattle.resp_core.specs.Command.{command_of, word, words_of}
use Rattle.resp_core.specs.Value.{tree_of}
use Rattle.resp_core.proofs.CallerLemmas.{words_of-list, words_of_command, command_of_is_command}
use Rattle.proxy_stats.specs.RefusedNames.{noted}
use Rattle.proxy_stats.proofs.RefusalLemmas.{named_command}
use Rattle.proxy_stats.proofs.refused_names.RefusedNames.note_request.Goals as goal

pub returns-in-Some : goal.returns-in-Some
returns-in-Some c =
    let (is_command, _, is_array) = c.in-Some.ensures.command in
    let name = c.as_slice.ensures ∙ c.word.ensures ∙ ap (λ z. word z 0) (sym (ap words_of is_array ∙ words_of-list c.in-Some.words.now)) in
    rw c.in-Read.is (c.note.ensures ∙ ap (λ (w : List ℕ). noted c.args.self.now w) (named_command (tree_of c.in-Read.value) _ is_command name))

pub returns-in-Spelled : goal.returns-in-Spelled
returns-in-Spelled c =
    let name = c.first_word.ensures.word ∙ ap (λ z. word z 0) (sym (words_of_command c.in-Spelled.command)) in
    rw c.in-Spelled.is (c.note-in-Spelled.ensures ∙ ap (λ (w : List ℕ). noted c.args.self.now w) (named_command (command_of c.in-Spelled.command) _ (command_of_is_command c.in-Spelled.command c.first_word.ensures.some) name))

use Rattle.std.proofs.Common.{refl, sym, ◌∙◌}
use Rattle.resp_core.proofs.CommandLemmas.{is_command-list, no_list}
use Rattle.resp_core.proofs.value.Value.words.Goals as goal

pub returns-then-are_words-clause-command : goal.returns-then-are_words-clause-command
returns-then-are_words-clause-command c =
    let test = sym c.are_words.ensures ∙ c.if-are_words.true in
    rw c.in-List.is (is_command-list c.in-List.members ∙ test, test, refl)

pub returns-else-are_words-clause-none : goal.returns-else-are_words-clause-none
returns-else-are_words-clause-none c =
    rw c.in-List.is (is_command-list c.in-List.members ∙ sym c.are_words.ensures ∙ c.if-are_words.false)

pub returns-in_default-clause-none : goal.returns-in_default-clause-none
returns-in_default-clause-none c = no_list c.args.self.now c.in_default.not-List

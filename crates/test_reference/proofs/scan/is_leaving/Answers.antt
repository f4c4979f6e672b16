use Rattle.std.proofs.Common.{sym, ap, ◌∙◌}
use Rattle.resp_core.specs.Value.{tree_of}
use Rattle.splitter.specs.Plan.{is_last}
use Rattle.proxy_history.specs.History.{plan_for}
use Rattle.command_table.specs.Table.{row_named}
use Rattle.test_reference.proofs.QuitLemmas.{command_leaves}
use Rattle.test_reference.specs.Scan.{is_quit_row}
use Rattle.test_reference.proofs.scan.is_leaving.Goals as goal

pub returns-in-Some : goal.returns-in-Some
returns-in-Some c =
    let (some, within, are_words) = rw c.in-Some.is at c.words.ensures.command in
    c.is_quit.ensures ∙ ap (λ z. is_quit_row (row_named z)) (c.as_slice.ensures ∙ c.word.ensures) ∙ command_leaves (tree_of c.in-Read.value) c.in-Some.words.now some within are_words ∙ ap (λ z. is_last (plan_for z)) (sym c.in-Read.is)

use Rattle.std.proofs.Common.{◌∙◌, ap, arith}
use Rattle.command_table.specs.Table.{row_named}
use Rattle.test_reference.proofs.QuitLemmas.{text_leaves}
use Rattle.test_reference.specs.Scan.{is_quit_row}
use Rattle.test_reference.proofs.scan.is_leaving_text.Goals as goal

pub returns : goal.returns
returns c =
    c.is_quit.ensures ∙ ap (λ z. is_quit_row (row_named z)) c.word.ensures ∙ text_leaves c.args.command.now (omega (arith, c.count.ensures.count, c.count.ensures.some))

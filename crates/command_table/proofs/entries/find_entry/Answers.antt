use Rattle.std.proofs.Common.{sym, ◌∙◌}
use Rattle.command_table.specs.Table.{is_name}
use Rattle.command_table.specs.Entry.{row_of}
use Rattle.command_table.proofs.RowSearchLemmas.{find-here, find-further, is_name-compared}
use Rattle.command_table.proofs.TableLemmas.{unnamed}
use Rattle.command_table.proofs.entries.find_entry.Goals as goal

pub returns-then-eq_ignore_ascii_case : goal.returns-then-eq_ignore_ascii_case
returns-then-eq_ignore_ascii_case c =
    sym (find-here (λ r. is_name c.args.name.now r.name) row_of c.args.entries.now c.loop-entry.entry-index unnamed c.loop-entry-test.true
    (is_name-compared c.eq_ignore_ascii_case.result c.args.name.now _ c.as_bytes.result.now c.as_bytes.ensures.value c.eq_ignore_ascii_case.ensures.test ∙ c.if-eq_ignore_ascii_case.true))
    ∙ c.loop-entry.invariant

pub loop-entry-preserved : goal.loop-entry-preserved
loop-entry-preserved c =
    sym (find-further (λ r. is_name c.args.name.now r.name) row_of c.args.entries.now c.loop-entry.entry-index unnamed c.loop-entry-test.true
    (is_name-compared c.eq_ignore_ascii_case.result c.args.name.now _ c.as_bytes.result.now c.as_bytes.ensures.value c.eq_ignore_ascii_case.ensures.test ∙ c.if-eq_ignore_ascii_case.false))
    ∙ c.loop-entry.invariant

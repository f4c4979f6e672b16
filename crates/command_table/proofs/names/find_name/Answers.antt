use Rattle.std.proofs.Common.{[], sym, ◌∙◌}
use Rattle.command_table.specs.Table.{is_name}
use Rattle.command_table.proofs.RowSearchLemmas.{find-here, find-further, is_name-compared}
use Rattle.command_table.proofs.names.find_name.Goals as goal

pub returns-then-eq_ignore_ascii_case : goal.returns-then-eq_ignore_ascii_case
returns-then-eq_ignore_ascii_case c =
    sym (find-here (is_name c.args.name.now) (λ n. n.now) c.args.names.now c.loop-known.known-index (record { ref_ptr = (0, 0); now = [] }) c.loop-known-test.true
    (is_name-compared c.eq_ignore_ascii_case.result c.args.name.now _ c.as_bytes.result.now c.as_bytes.ensures.value c.eq_ignore_ascii_case.ensures.test ∙ c.if-eq_ignore_ascii_case.true))
    ∙ c.loop-known.invariant

pub loop-known-preserved : goal.loop-known-preserved
loop-known-preserved c =
    sym (find-further (is_name c.args.name.now) (λ n. n.now) c.args.names.now c.loop-known.known-index (record { ref_ptr = (0, 0); now = [] }) c.loop-known-test.true
    (is_name-compared c.eq_ignore_ascii_case.result c.args.name.now _ c.as_bytes.result.now c.as_bytes.ensures.value c.eq_ignore_ascii_case.ensures.test ∙ c.if-eq_ignore_ascii_case.false))
    ∙ c.loop-known.invariant

use Rattle.std.proofs.Common.{sym, ap, ◌∙◌}
use Rattle.command_table.specs.Table.{is_name}
use Rattle.close_behind.proofs.NameLemmas.{any-here, any-further}
use Rattle.close_behind.proofs.name_list.NameList.has.Goals as goal

pub returns-then-is : goal.returns-then-is
returns-then-is c =
    sym (any-here (is_name c.args.name.now) c.deref-one-items.result.now c.loop-one.one-index c.one-item.result c.loop-one-test.true
    (ap (is_name c.args.name.now) (sym c.one-item.is) ∙ sym c.is.ensures ∙ c.if-is.true))
    ∙ c.loop-one.invariant

pub loop-one-preserved : goal.loop-one-preserved
loop-one-preserved c =
    any-further (is_name c.args.name.now) c.deref-one-items.result.now c.loop-one.one-index c.one-item.result c.loop-one-test.true
    (ap (is_name c.args.name.now) (sym c.one-item.is) ∙ sym c.is.ensures ∙ c.if-is.false)
    ∙ c.loop-one.invariant

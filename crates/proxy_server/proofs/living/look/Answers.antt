use Rattle.std.proofs.Common.{sym, ◌∙◌}
use Rattle.proxy_server.proofs.LivingLemmas.{is_found, isnt_none, look_none}
use Rattle.proxy_server.proofs.living.look.Goals as goal

pub returns-then-is_number-clause-found : goal.returns-then-is_number-clause-found
returns-then-is_number-clause-found c =
    is_found c.args.number c.args.living.now c.loop-one.one-index _ c.loop-one.invariant c.loop-one-test.true
    (sym c.is_number.ensures ∙ c.if-is_number.true)

pub returns-then-is_number-clause-none : goal.returns-then-is_number-clause-none
returns-then-is_number-clause-none c =
    isnt_none c.args.number c.args.living.now c.loop-one.one-index _ _ c.loop-one.invariant c.loop-one-test.true
    (sym c.is_number.ensures ∙ c.if-is_number.true)

pub loop-one-preserved : goal.loop-one-preserved
loop-one-preserved c =
    look_none c.args.number c.args.living.now c.loop-one.one-index _ c.loop-one.invariant c.loop-one-test.true
    (sym c.is_number.ensures ∙ c.if-is_number.false)

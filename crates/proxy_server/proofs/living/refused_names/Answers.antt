use Rattle.std.proofs.Common.{[]}
use Rattle.proxy_server.proofs.NameSumLemmas.{sums_along, sums_more, sums_of_all}
use Rattle.proxy_server.proofs.living.refused_names.Goals as goal

pub loop-one-init : goal.loop-one-init
loop-one-init c = sums_more [] c.args.past.now _ _ c.no_names.ensures c.plus-names.ensures

pub loop-one-preserved : goal.loop-one-preserved
loop-one-preserved c =
    sums_along c.args.past.now c.args.living.now c.loop-one.one-index _ c.loop-one.names c.plus-names-in-loop-one.result c.loop-one-test.true
    c.loop-one.invariant c.plus-names-in-loop-one.ensures

pub returns : goal.returns
returns c = sums_of_all c.args.past.now c.args.living.now c.loop-one.one-index c.loop-one.names c.loop-one-test.false c.loop-one.invariant

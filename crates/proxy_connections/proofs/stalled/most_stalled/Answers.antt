use Rattle.std.proofs.Common.{arith}
use Rattle.proxy_connections.proofs.StalledLemmas.{is_most, most_of_none}
use Rattle.proxy_connections.proofs.stalled.most_stalled.Goals as goal

pub loop-key-init : goal.loop-key-init
loop-key-init c = most_of_none _ _

pub loop-key-preserved : goal.loop-key-preserved
loop-key-preserved c = c.more_stalled-most.ensures c.loop-key.invariant

pub returns-else-most-eq0-clause-some : goal.returns-else-most-eq0-clause-some
returns-else-most-eq0-clause-some c =
    is_most c.args.now c.args.clients.now c.loop-key.key c.loop-key.most c.loop-key.invariant
    (grind (arith, c.capacity-key-end.ensures.slots, c.capacity-key-end.ensures.value, c.loop-key-test.false, c.loop-key.auto.key-end))
    (λ none. grind (arith, none, c.if-most-eq0.false))

use Rattle.std.proofs.Common.{arith}
use Rattle.ketama.proofs.SortedPairLemmas.{first_usable-IsLeast, none_usable}
use Rattle.ketama.proofs.owner.first_usable.Goals as goal

pub returns-then-usable-host : goal.returns-then-usable-host
returns-then-usable-host c =
    first_usable-IsLeast c.args.pairs.now c.args.usable.now c.loop-at.at-index c.requires.in_order c.loop-at-test.true c.loop-at.invariant c.if-usable-host.true

pub returns : goal.returns
returns c = none_usable c.args.pairs.now c.args.usable.now (λ k within. c.loop-at.invariant k (omega (arith, within, c.loop-at-test.false)))

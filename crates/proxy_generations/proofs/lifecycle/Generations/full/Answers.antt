use Rattle.std.proofs.Common.{arith}
use Rattle.proxy_generations.specs.Events.{Full}
use Rattle.proxy_generations.proofs.GenerationsStateLemmas.{tells_it, stands_full}
use Rattle.proxy_generations.proofs.lifecycle.Generations.full.Goals as goal

pub returns-then-has_given_up : goal.returns-then-has_given_up
returns-then-has_given_up g c =
    tells_it (Full c.args.by.number c.args.by.now c.args.handover) c.args.self.now _ (λ s es st.
    stands_full c.args.self.now s es c.args.by.number c.args.by.now c.in-Some.newest.swept c.in-Some-checked_add.asked c.args.handover st
    c.in-Unasked.is (rw (← c.if-newest-by.true) c.in-Some.is)
    (grind (arith, c.in-Some-checked_add.ensures)) (grind (arith, c.in-Some-checked_add.ensures))
    (c.has_given_up.ensures.0 c.if-has_given_up.true))

use Rattle.std.proofs.lemmas.Bool.{iff_false}
use Rattle.proxy_generations.specs.Events.{Drained}
use Rattle.proxy_generations.proofs.GenerationsStateLemmas.{tells_nothing, tells_it, drains_is, stands_drained}
use Rattle.proxy_generations.proofs.lifecycle.Generations.drained.Goals as goal

pub returns-then-has : goal.returns-then-has
returns-then-has g c =
    tells_it (Drained c.args.number) c.args.self.now _ (λ s es st.
    let may = (drains_is c.args.self.now s es c.args.number st).0 (c.has.ensures.0 c.if-has.true) in
    (may, stands_drained c.args.self.now s es c.args.number _ st may c.remove.ensures))

pub returns-else-has : goal.returns-else-has
returns-else-has g c =
    tells_nothing (Drained c.args.number) c.args.self.now (λ s es st may.
    iff_false c.has.ensures c.if-has.false ((drains_is c.args.self.now s es c.args.number st).1 may))

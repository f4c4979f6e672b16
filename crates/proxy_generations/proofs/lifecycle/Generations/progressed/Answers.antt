use Rattle.std.proofs.lemmas.Bool.{iff_false}
use Rattle.proxy_generations.specs.Events.{Progressed}
use Rattle.proxy_generations.proofs.GenerationsStateLemmas.{tells_nothing, tells_it, way_is, stands_progressed}
use Rattle.proxy_generations.proofs.lifecycle.Generations.progressed.Goals as goal

pub returns-then-is_in_the_way : goal.returns-then-is_in_the_way
returns-then-is_in_the_way g c =
    tells_it (Progressed c.args.at.number c.args.at.now) c.args.self.now _ (λ s es st.
    let way = (way_is c.args.self.now s es c.args.at.number st).0 (c.is_in_the_way.ensures.0 c.if-is_in_the_way.true) in
    (way, stands_progressed c.args.self.now s es c.args.at.number c.args.at.now st way))

pub returns-else-is_in_the_way : goal.returns-else-is_in_the_way
returns-else-is_in_the_way g c =
    tells_nothing (Progressed c.args.at.number c.args.at.now) c.args.self.now (λ s es st may.
    iff_false c.is_in_the_way.ensures c.if-is_in_the_way.false ((way_is c.args.self.now s es c.args.at.number st).1 may))

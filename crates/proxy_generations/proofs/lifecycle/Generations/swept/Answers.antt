use Rattle.std.proofs.lemmas.Bool.{iff_false}
use Rattle.proxy_generations.specs.Events.{Swept}
use Rattle.proxy_generations.proofs.GenerationsStateLemmas.{tells_nothing, tells_it, none_has, stands_newest_swept, stands_older_swept}
use Rattle.proxy_generations.proofs.lifecycle.Generations.swept.Goals as goal

pub returns-then-has_number : goal.returns-then-has_number
returns-then-has_number g c =
    tells_it (Swept c.args.at.number c.args.at.now) c.args.self.now _ (λ s es st.
    stands_newest_swept c.args.self.now s es c.args.at.number c.args.at.now st (c.has_number.ensures.0 c.if-has_number.true))

pub returns-then-has : goal.returns-then-has
returns-then-has g c =
    tells_it (Swept c.args.at.number c.args.at.now) c.args.self.now _ (λ s es st.
    stands_older_swept c.args.self.now s es c.args.at.number c.args.at.now _ st
    (iff_false c.has_number.ensures c.if-has_number.false) (c.has.ensures.0 c.if-has.true) c.sweep.ensures)

pub returns-else-has : goal.returns-else-has
returns-else-has g c =
    tells_nothing (Swept c.args.at.number c.args.at.now) c.args.self.now (λ s es st may.
    none_has c.args.self.now s es c.args.at.number st
    (iff_false c.has_number.ensures c.if-has_number.false) (iff_false c.has.ensures c.if-has.false) may)

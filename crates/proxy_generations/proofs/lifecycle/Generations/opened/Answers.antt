use Rattle.proxy_generations.specs.Events.{Opened}
use Rattle.proxy_generations.proofs.GenerationsStateLemmas.{tells_nothing, tells_it, opening_is, is_opening, stands_opened}
use Rattle.proxy_generations.proofs.lifecycle.Generations.opened.Goals as goal

pub returns-then-is_opening : goal.returns-then-is_opening
returns-then-is_opening g c =
    let is = c.is_opening.ensures.0 c.if-is_opening.true in
    tells_it (Opened c.args.at.number c.args.at.now) c.args.self.now _ (λ s es st.
    let o = opening_is c.args.self.now s es c.args.at.number st is.0 is.1 in
    (o, stands_opened c.args.self.now s es c.args.at.number c.args.at.now c.unwrap_or.result _ st o c.unwrap_or.ensures c.add.ensures))

pub returns-else-is_opening : goal.returns-else-is_opening
returns-else-is_opening g c =
    tells_nothing (Opened c.args.at.number c.args.at.now) c.args.self.now (λ s es st o.
    absurd (let yes = c.is_opening.ensures.1 (is_opening c.args.self.now s es c.args.at.number st o) in
    let no = c.if-is_opening.false in cc))

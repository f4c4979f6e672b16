use Rattle.proxy_generations.specs.Events.{Near}
use Rattle.proxy_generations.specs.History.{MayHappen}
use Rattle.proxy_generations.proofs.GenerationsStateLemmas.{tells_it, number_newest, may_be_left, stands_near}
use Rattle.proxy_generations.proofs.lifecycle.Generations.near.Goals as goal

pub returns-then-may_be_left : goal.returns-then-may_be_left
returns-then-may_be_left g c =
    tells_it (Near c.args.by.number c.args.by.now) c.args.self.now _ (λ s es st.
    let may : MayHappen (Near c.args.by.number c.args.by.now) es = (
      (number_newest c.args.self.now s es c.args.by.number st).0 (c.has_number.ensures.0 c.if-has_number.true),
      (may_be_left c.args.self.now s es c.args.by.now st).0 (c.may_be_left.ensures.0 c.if-may_be_left.true),
    ) in
    (may, stands_near c.args.self.now s es c.args.by.number c.args.by.now c.unwrap_or.result st may c.unwrap_or.ensures))

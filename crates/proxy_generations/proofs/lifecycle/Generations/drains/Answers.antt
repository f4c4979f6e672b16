use Rattle.proxy_generations.proofs.GenerationsStateLemmas.{drains_is}
use Rattle.proxy_generations.proofs.lifecycle.Generations.drains.Goals as goal

pub returns : goal.returns
returns g c = λ s es st.
    let is = drains_is c.args.self.now s es c.args.number st in
    (λ x. is.0 (c.has.ensures.0 x), λ x. c.has.ensures.1 (is.1 x))

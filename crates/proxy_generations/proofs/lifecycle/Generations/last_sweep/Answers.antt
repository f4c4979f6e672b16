use Rattle.std.proofs.Common.{refl}
use Rattle.proxy_generations.proofs.GenerationsStateLemmas.{newest_sweep, sweep_told}
use Rattle.proxy_generations.proofs.lifecycle.Generations.last_sweep.Goals as goal

pub returns-in-Some : goal.returns-in-Some
returns-in-Some g c = λ s es st. newest_sweep c.args.self.now s es c.args.number c.in-Some.moment st c.in-Some.ensures.some

pub returns-in-None : goal.returns-in-None
returns-in-None g c = λ s es st.
    sweep_told c.args.self.now s es c.args.number c.sweep_of-in-None.result st (c.in-None.ensures.none.0 refl)
    c.sweep_of-in-None.ensures.some c.sweep_of-in-None.ensures.none.0

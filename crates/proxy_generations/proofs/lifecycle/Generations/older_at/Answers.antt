use Rattle.std.proofs.Common.{ap}
use Rattle.std.specs.Prelude.{slice_get}
use Rattle.proxy_generations.proofs.GenerationsStateLemmas.{numbers_are}
use Rattle.proxy_generations.proofs.lifecycle.Generations.older_at.Goals as goal

pub returns : goal.returns
returns g c = λ s es st.
    let are = ap (λ ns. slice_get ns c.args.index) (numbers_are c.args.self.now s es st) in
    let is = c.number_at.ensures in cc

use Rattle.proxy_generations.proofs.ConnectionLemmas.{apart}
use Rattle.proxy_generations.proofs.GenerationsStateLemmas.{not_above}
use Rattle.proxy_generations.proofs.laws.draining_are_older.Goals as goal

pub returns : goal.returns
returns g c = λ es h n drains. ((λ is. apart es h n is drains), not_above es h n drains)

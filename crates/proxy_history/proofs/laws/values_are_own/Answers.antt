use Rattle.proxy_history.proofs.outcomes.OwnValueLemmas.{values_are_own as law}
use Rattle.proxy_history.proofs.laws.values_are_own.Goals as goal

pub returns : goal.returns
returns c = law

use Rattle.proxy_history.proofs.outcomes.OutcomeLemmas.{outcomes_are_as_planned as law}
use Rattle.proxy_history.proofs.laws.outcomes_are_as_planned.Goals as goal

pub returns : goal.returns
returns c = law

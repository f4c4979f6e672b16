use Rattle.proxy_history.proofs.outcomes.OutcomesStayLemmas.{stays}
use Rattle.proxy_history.proofs.laws.outcomes_stay.Goals as goal

pub returns : goal.returns
returns c = stays

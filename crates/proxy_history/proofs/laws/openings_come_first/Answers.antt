use Rattle.proxy_history.proofs.StepLemmas.{openings_come_first as law}
use Rattle.proxy_history.proofs.laws.openings_come_first.Goals as goal

pub returns : goal.returns
returns c = law

use Rattle.proxy_history.proofs.parts.ArrivalLemmas.{parts_have_arrived as law}
use Rattle.proxy_history.proofs.laws.parts_have_arrived.Goals as goal

pub returns : goal.returns
returns c = law

use Rattle.proxy_history.proofs.parts.ArrivalLemmas.{sent_parts_arrived as law}
use Rattle.proxy_history.proofs.laws.sent_parts_arrived.Goals as goal

pub returns : goal.returns
returns c = law

use Rattle.proxy_history.proofs.handing.OrderLemmas.{in_order as law}
use Rattle.proxy_history.proofs.laws.replies_are_in_order.Goals as goal

pub returns : goal.returns
returns c = law

use Rattle.proxy_history.proofs.sending.WaitingOrderLemmas.{waiting_is_in_order as law}
use Rattle.proxy_history.proofs.laws.waiting_is_in_order.Goals as goal

pub returns : goal.returns
returns c = law

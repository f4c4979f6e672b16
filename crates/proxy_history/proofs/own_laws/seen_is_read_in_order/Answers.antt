use Rattle.proxy_history.proofs.SeenStepsLemmas.{seen_is_read_in_order as law}
use Rattle.proxy_history.proofs.own_laws.seen_is_read_in_order.Goals as goal

pub returns : goal.returns
returns c = law

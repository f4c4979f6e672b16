use Rattle.proxy_history.proofs.SeenStepsLemmas.{orders_hold_the_same as law}
use Rattle.proxy_history.proofs.own_laws.orders_hold_the_same.Goals as goal

pub returns : goal.returns
returns c = law

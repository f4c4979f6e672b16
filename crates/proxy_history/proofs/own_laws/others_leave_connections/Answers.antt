use Rattle.proxy_history.proofs.OwnStepsLemmas.{others_leave_connections as law}
use Rattle.proxy_history.proofs.own_laws.others_leave_connections.Goals as goal

pub returns : goal.returns
returns c = λ later before conn none. law conn later before none

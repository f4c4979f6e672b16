use Rattle.proxy_history.proofs.OwnStepsLemmas.{others_leave_hosts as law}
use Rattle.proxy_history.proofs.own_laws.others_leave_hosts.Goals as goal

pub returns : goal.returns
returns c = λ later before h none. law h later before none

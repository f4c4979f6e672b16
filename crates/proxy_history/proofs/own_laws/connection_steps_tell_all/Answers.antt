use Rattle.proxy_history.proofs.OwnStepsLemmas.{connection_steps_tell_all as law}
use Rattle.proxy_history.proofs.own_laws.connection_steps_tell_all.Goals as goal

pub returns : goal.returns
returns c = λ H conn. law conn H

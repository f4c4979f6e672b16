use Rattle.proxy_history.proofs.OwnStepsLemmas.{host_steps_tell_all as law}
use Rattle.proxy_history.proofs.own_laws.host_steps_tell_all.Goals as goal

pub returns : goal.returns
returns c = λ H h. law h H

use Rattle.proxy_history.proofs.FaultLemmas.{faults_raise_epochs as law}
use Rattle.proxy_history.proofs.laws.faults_raise_epochs.Goals as goal

pub returns : goal.returns
returns c = law

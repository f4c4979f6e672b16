use Rattle.proxy_history.proofs.FaultLemmas.{epochs_end_by_faults as law}
use Rattle.proxy_history.proofs.laws.epochs_end_by_faults.Goals as goal

pub returns : goal.returns
returns c = law

use Rattle.proxy_history.proofs.StepLemmas.{epochs_are_present as law}
use Rattle.proxy_history.proofs.laws.epochs_are_present.Goals as goal

pub returns : goal.returns
returns c = law

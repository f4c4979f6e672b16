use Rattle.proxy_history.proofs.StepLemmas.{answers_fit as law}
use Rattle.proxy_history.proofs.laws.answers_fit.Goals as goal

pub returns : goal.returns
returns c = law

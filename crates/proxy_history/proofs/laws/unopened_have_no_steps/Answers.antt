use Rattle.proxy_history.proofs.StepLemmas.{unopened_have_no_steps as law}
use Rattle.proxy_history.proofs.laws.unopened_have_no_steps.Goals as goal

pub returns : goal.returns
returns c = law

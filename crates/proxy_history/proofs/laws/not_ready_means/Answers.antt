use Rattle.proxy_history.proofs.causes.CauseLemmas.{not_ready_means as law}
use Rattle.proxy_history.proofs.laws.not_ready_means.Goals as goal

pub returns : goal.returns
returns c = law

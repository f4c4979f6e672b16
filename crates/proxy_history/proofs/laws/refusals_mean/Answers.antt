use Rattle.proxy_history.proofs.causes.RefusalLemmas.{refusals_mean as law}
use Rattle.proxy_history.proofs.laws.refusals_mean.Goals as goal

pub returns : goal.returns
returns c = law

use Rattle.proxy_history.proofs.causes.CauseLemmas.{finishing_takes_nothing as law}
use Rattle.proxy_history.proofs.laws.finishing_takes_nothing.Goals as goal

pub returns : goal.returns
returns c = law

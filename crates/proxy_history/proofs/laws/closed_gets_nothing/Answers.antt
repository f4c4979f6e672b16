use Rattle.proxy_history.proofs.handing.AfterCloseLemmas.{closed_gets_nothing as law}
use Rattle.proxy_history.proofs.laws.closed_gets_nothing.Goals as goal

pub returns : goal.returns
returns c = law

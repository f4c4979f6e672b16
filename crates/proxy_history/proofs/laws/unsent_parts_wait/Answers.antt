use Rattle.proxy_history.proofs.sending.UnsentLemmas.{unsent_parts_wait as law}
use Rattle.proxy_history.proofs.laws.unsent_parts_wait.Goals as goal

pub returns : goal.returns
returns c = law

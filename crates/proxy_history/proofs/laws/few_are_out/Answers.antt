use Rattle.ejector.proofs.CallerLemmas.{state_out}
use Rattle.proxy_history.specs.Past.{past}
use Rattle.proxy_history.proofs.laws.few_are_out.Goals as goal

pub returns : goal.returns
returns c = λ S H w. state_out S.rules S.opening (past S H).marks w

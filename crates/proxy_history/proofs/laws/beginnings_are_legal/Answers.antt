use Rattle.proxy_history.proofs.BeginningLemmas.{beginning}
use Rattle.proxy_history.proofs.laws.beginnings_are_legal.Goals as goal

pub returns : goal.returns
returns c = beginning

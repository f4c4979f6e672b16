use Rattle.splitter.proofs.RequestLemmas.{requests_go_on}
use Rattle.splitter.proofs.laws.requests_go_on.Goals as goal

pub returns : goal.returns
returns c = requests_go_on

use Rattle.ejector.proofs.OpeningLemmas.{goes_on}
use Rattle.ejector.proofs.laws.state_goes_on.Goals as goal

pub returns : goal.returns
returns c = goes_on

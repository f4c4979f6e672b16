use Rattle.ejector.proofs.OpeningLemmas.{opening_first}
use Rattle.ejector.proofs.laws.opening_comes_first.Goals as goal

pub returns : goal.returns
returns c = opening_first

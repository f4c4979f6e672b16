use Rattle.ejector.proofs.OpeningLemmas.{openings_stay}
use Rattle.ejector.proofs.laws.openings_stay.Goals as goal

pub returns : goal.returns
returns c = openings_stay

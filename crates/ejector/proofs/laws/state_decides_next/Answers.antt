use Rattle.ejector.proofs.NextStateLemmas.{same_next}
use Rattle.ejector.proofs.laws.state_decides_next.Goals as goal

pub returns : goal.returns
returns c = same_next

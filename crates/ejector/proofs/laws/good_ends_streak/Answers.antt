use Rattle.ejector.proofs.HostLemmas.{good_ends}
use Rattle.ejector.proofs.laws.good_ends_streak.Goals as goal

pub returns : goal.returns
returns c = good_ends

use Rattle.ketama.proofs.OwnerLemmas
use Rattle.ketama.proofs.laws.others_keep_their_points.Goals as goal

pub returns : goal.returns
returns c = OwnerLemmas.others_keep_their_points

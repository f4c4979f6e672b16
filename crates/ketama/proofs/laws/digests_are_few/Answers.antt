use Rattle.ketama.proofs.ShareLemmas
use Rattle.ketama.proofs.laws.digests_are_few.Goals as goal

pub returns : goal.returns
returns c = ShareLemmas.digests_are_few

use Rattle.ketama.proofs.ShareLemmas
use Rattle.ketama.proofs.laws.heaviest_has_forty.Goals as goal

pub returns : goal.returns
returns c = ShareLemmas.heaviest_has_forty

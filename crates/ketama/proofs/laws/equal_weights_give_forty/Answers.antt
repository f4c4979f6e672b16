use Rattle.ketama.proofs.ShareLemmas
use Rattle.ketama.proofs.laws.equal_weights_give_forty.Goals as goal

pub returns : goal.returns
returns c = ShareLemmas.equal_weights_give_forty

use Rattle.ketama.proofs.OwnerLemmas
use Rattle.ketama.proofs.laws.first_choice_stands.Goals as goal

pub returns : goal.returns
returns c = OwnerLemmas.first_choice_stands

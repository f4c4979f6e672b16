use Rattle.ketama.proofs.OwnerLemmas.{owner_of-is, owner_of-unique}
use Rattle.ketama.proofs.laws.owner_is_one.Goals as goal

pub returns : goal.returns
returns c pairs point usable = record { owner = owner_of-is pairs point usable; only = owner_of-unique pairs point usable }

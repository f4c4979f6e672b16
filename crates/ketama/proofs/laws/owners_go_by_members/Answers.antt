use Rattle.ketama.proofs.OwnerLemmas
use Rattle.ketama.proofs.laws.owners_go_by_members.Goals as goal

pub returns : goal.returns
returns c = OwnerLemmas.owners_go_by_members

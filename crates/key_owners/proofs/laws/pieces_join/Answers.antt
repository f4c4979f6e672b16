use Rattle.key_owners.proofs.TellingLemmas.{takes_join}
use Rattle.key_owners.proofs.laws.pieces_join.Goals as goal

pub returns : goal.returns
returns c = takes_join

use Rattle.ejector.proofs.HostLemmas.{others_nothing}
use Rattle.ejector.proofs.laws.others_change_nothing.Goals as goal

pub returns : goal.returns
returns c = others_nothing

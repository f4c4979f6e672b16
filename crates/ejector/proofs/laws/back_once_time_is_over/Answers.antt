use Rattle.ejector.proofs.HostLemmas.{back_once}
use Rattle.ejector.proofs.laws.back_once_time_is_over.Goals as goal

pub returns : goal.returns
returns c = back_once

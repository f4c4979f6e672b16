use Rattle.resp_core.proofs.streams.StreamLawLemmas.{values_stay}
use Rattle.resp_core.proofs.laws.values_stay.Goals as goal

pub returns : goal.returns
returns c = values_stay

use Rattle.resp_core.proofs.streams.StreamLawLemmas.{values_go_on}
use Rattle.resp_core.proofs.laws.values_go_on.Goals as goal

pub returns : goal.returns
returns c = values_go_on

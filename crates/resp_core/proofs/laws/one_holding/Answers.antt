use Rattle.resp_core.proofs.streams.StreamLawLemmas.{one_holding}
use Rattle.resp_core.proofs.laws.one_holding.Goals as goal

pub returns : goal.returns
returns c = one_holding

use Rattle.resp_core.proofs.streams.StreamLawLemmas.{refusal_stays}
use Rattle.resp_core.proofs.laws.refusal_stays.Goals as goal

pub returns : goal.returns
returns c = refusal_stays

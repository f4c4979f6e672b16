use Rattle.resp_core.proofs.streams.StreamLawLemmas.{no_text_begins_another}
use Rattle.resp_core.proofs.laws.no_text_begins_another.Goals as goal

pub returns : goal.returns
returns c = no_text_begins_another

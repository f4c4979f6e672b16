use Rattle.resp_core.proofs.streams.StreamLawLemmas.{text_is_read_back, text_is_read_next}
use Rattle.resp_core.proofs.laws.text_is_read_back.Goals as goal

pub returns-clause-front : goal.returns-clause-front
returns-clause-front c = text_is_read_back

pub returns-clause-next : goal.returns-clause-next
returns-clause-next c = text_is_read_next

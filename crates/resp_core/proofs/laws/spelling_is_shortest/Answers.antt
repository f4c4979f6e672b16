use Rattle.resp_core.proofs.SpellingLemmas.{spelling_is_shortest}
use Rattle.resp_core.proofs.laws.spelling_is_shortest.Goals as goal

pub returns : goal.returns
returns c = spelling_is_shortest

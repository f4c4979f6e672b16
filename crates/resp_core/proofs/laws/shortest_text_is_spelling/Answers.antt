use Rattle.resp_core.proofs.OneSpellingLemmas.{shortest_text_is_spelling}
use Rattle.resp_core.proofs.laws.shortest_text_is_spelling.Goals as goal

pub returns : goal.returns
returns c = shortest_text_is_spelling

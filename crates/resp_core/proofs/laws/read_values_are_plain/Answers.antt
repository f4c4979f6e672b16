use Rattle.resp_core.proofs.SpellingLemmas.{read_values_are_plain}
use Rattle.resp_core.proofs.laws.read_values_are_plain.Goals as goal

pub returns : goal.returns
returns c = read_values_are_plain

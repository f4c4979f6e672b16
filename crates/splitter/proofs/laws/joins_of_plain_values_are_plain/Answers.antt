use Rattle.splitter.proofs.PlainTextLemmas.{joins_of_plain_values_are_plain}
use Rattle.splitter.proofs.laws.joins_of_plain_values_are_plain.Goals as goal

pub returns : goal.returns
returns c = joins_of_plain_values_are_plain

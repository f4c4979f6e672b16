use Rattle.splitter.proofs.PlainTextLemmas.{plan_texts_are_plain}
use Rattle.splitter.proofs.laws.plan_texts_are_plain.Goals as goal

pub returns : goal.returns
returns c = plan_texts_are_plain

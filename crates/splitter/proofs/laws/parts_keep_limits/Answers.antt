use Rattle.splitter.proofs.PartLemmas.{parts_keep_limits}
use Rattle.splitter.proofs.laws.parts_keep_limits.Goals as goal

pub returns : goal.returns
returns c = parts_keep_limits

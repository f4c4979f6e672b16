use Rattle.proxy_history.proofs.handing.HandingLemmas.{handed_is_its_outcome as law}
use Rattle.proxy_history.proofs.laws.handed_is_its_outcome.Goals as goal

pub returns : goal.returns
returns c = law

use Rattle.proxy_history.proofs.handing.HandingLemmas.{replies_go_out_once as law}
use Rattle.proxy_history.proofs.laws.replies_go_out_once.Goals as goal

pub returns : goal.returns
returns c = law

use Rattle.proxy_history.proofs.SeenStepsLemmas.{seen_beginnings_are_legal as law}
use Rattle.proxy_history.proofs.own_laws.seen_beginnings_are_legal.Goals as goal

pub returns : goal.returns
returns c = law

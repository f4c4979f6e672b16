use Rattle.proxy_history.proofs.SeenStepsLemmas.{seen_steps_follow as law}
use Rattle.proxy_history.proofs.own_laws.seen_steps_follow.Goals as goal

pub returns : goal.returns
returns c = law

use Rattle.proxy_history.proofs.parts.CommandPartLemmas.{commands_have_their_parts as law}
use Rattle.proxy_history.proofs.laws.commands_have_their_parts.Goals as goal

pub returns : goal.returns
returns c = law

use Rattle.resp_core.proofs.CommandLemmas.{commands_are_plain}
use Rattle.resp_core.proofs.laws.commands_are_plain.Goals as goal

pub returns : goal.returns
returns c = commands_are_plain

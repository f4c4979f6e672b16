use Rattle.splitter.proofs.CommandLemmas.{parts_are_of_commands}
use Rattle.splitter.proofs.laws.parts_are_of_commands.Goals as goal

pub returns : goal.returns
returns c = parts_are_of_commands

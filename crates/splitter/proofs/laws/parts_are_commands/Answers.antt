use Rattle.splitter.proofs.PartLemmas.{parts_are_commands}
use Rattle.splitter.proofs.laws.parts_are_commands.Goals as goal

pub returns : goal.returns
returns c = parts_are_commands

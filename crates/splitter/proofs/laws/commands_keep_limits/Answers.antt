use Rattle.splitter.proofs.CommandLemmas.{commands_keep_limits}
use Rattle.splitter.proofs.laws.commands_keep_limits.Goals as goal

pub returns : goal.returns
returns c = commands_keep_limits

use Rattle.command_table.proofs.TableLemmas.{names_are_distinct}
use Rattle.command_table.proofs.laws.names_are_distinct.Goals as goal

pub returns : goal.returns
returns c = names_are_distinct

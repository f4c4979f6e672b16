use Rattle.command_table.proofs.TableLemmas.{found_stands_in_table}
use Rattle.command_table.proofs.laws.found_stands_in_table.Goals as goal

pub returns : goal.returns
returns c = found_stands_in_table

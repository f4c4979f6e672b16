use Rattle.command_table.proofs.TableLemmas.{each_row_is_found}
use Rattle.command_table.proofs.laws.each_row_is_found.Goals as goal

pub returns : goal.returns
returns c = each_row_is_found

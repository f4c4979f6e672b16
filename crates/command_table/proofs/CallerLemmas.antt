-- What a crate above cites of the table.

-- a row that is found stands in the table
pub use Rattle.command_table.proofs.TableLemmas.{found_stands_in_table}

use Rattle.std.proofs.Common.{◌≡◌, Some, rules, sym}
use Rattle.std.specs.Option.{option_map}
use Rattle.command_table.specs.Table.{row_named}
use Rattle.command_table.specs.Entry.{row_of}
use Rattle.command_table.proofs.TableLemmas.{row_named-or_else, found_in_table, unknown_in_table}
use Rattle.command_table.proofs.look.Goals as goal

row_is : (c : goal.After-or_else) → option_map row_of c.or_else.result ≡ row_named c.args.name.now
row_is c =
    row_named-or_else c.args.name.now c.own_entry.result c.or_else.result (λ p. search rules) c.own_entry.ensures c.or_else.ensures

pub returns-in-Some-clause-row : goal.returns-in-Some-clause-row
returns-in-Some-clause-row c = sym c.in-Some.ensures

pub returns-in-Some-clause-found : goal.returns-in-Some-clause-found
returns-in-Some-clause-found c = found_in_table (Some c.in-Some.entry) c.args.name.now (sym c.in-Some.ensures)

pub returns-clause-row : goal.returns-clause-row
returns-clause-row c = row_is c

pub returns-clause-found : goal.returns-clause-found
returns-clause-found c = found_in_table c.or_else.result c.args.name.now (row_is c)

pub returns-clause-unknown : goal.returns-clause-unknown
returns-clause-unknown c = unknown_in_table c.or_else.result c.args.name.now (row_is c)

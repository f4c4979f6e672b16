use Rattle.std.proofs.Common.{Some, None, find, sym, ap, ◌∙◌}
use Rattle.std.specs.Option.{option_map}
use Rattle.command_table.specs.Names.{one_key_names}
use Rattle.command_table.specs.Table.{is_name}
use Rattle.command_table.proofs.RowSearchLemmas.{row_in-of_length}
use Rattle.command_table.proofs.names.one_key_entry.Goals as goal

pub returns-in-Some : goal.returns-in-Some
returns-in-Some c =
    row_in-of_length c.args.name.now one_key_names (Some c.in-Some.name.now)
    (ap (option_map (λ n. n.now)) (sym c.in-Some.is) ∙ c.find_name.ensures ∙ ap (find (is_name c.args.name.now)) c.names_of_length.ensures)

pub returns-in-None : goal.returns-in-None
returns-in-None c =
    row_in-of_length c.args.name.now one_key_names None
    (ap (option_map (λ n. n.now)) (sym c.in-None.is) ∙ c.find_name.ensures ∙ ap (find (is_name c.args.name.now)) c.names_of_length.ensures)

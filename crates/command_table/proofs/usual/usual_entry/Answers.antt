use Rattle.std.proofs.Common.{◌≡◌, ◌∙◌, Some, ap, refl, arith}
use Rattle.std.specs.Prelude.{codes}
use Rattle.std.proofs.lemmas.Slice.Eq.{text_from_reads}
use Rattle.command_table.specs.Names.{one_key_names}
use Rattle.command_table.specs.Table.{rows, row_named, one_key_row}
use Rattle.command_table.proofs.usual.usual_entry.Goals as goal

-- each spelling's row is computed here
row_of_GET : row_named (codes "GET") ≡ Some (one_key_row (codes "get"))
unfolding rows one_key_names
row_of_GET = refl

row_of_SET : row_named (codes "SET") ≡ Some (one_key_row (codes "set"))
unfolding rows one_key_names
row_of_SET = refl

row_of_get : row_named (codes "get") ≡ Some (one_key_row (codes "get"))
unfolding rows one_key_names
row_of_get = refl

row_of_set : row_named (codes "set") ≡ Some (one_key_row (codes "set"))
unfolding rows one_key_names
row_of_set = refl

pub returns-in-GET : goal.returns-in-GET
returns-in-GET c =
    ap row_named (text_from_reads c.args.name.now (codes "GET") (omega arith) (omega arith, (omega arith, (omega arith, tt)))) ∙ row_of_GET

pub returns-in-SET : goal.returns-in-SET
returns-in-SET c =
    ap row_named (text_from_reads c.args.name.now (codes "SET") (omega arith) (omega arith, (omega arith, (omega arith, tt)))) ∙ row_of_SET

pub returns-in-get : goal.returns-in-get
returns-in-get c =
    ap row_named (text_from_reads c.args.name.now (codes "get") (omega arith) (omega arith, (omega arith, (omega arith, tt)))) ∙ row_of_get

pub returns-in-set : goal.returns-in-set
returns-in-set c =
    ap row_named (text_from_reads c.args.name.now (codes "set") (omega arith) (omega arith, (omega arith, (omega arith, tt)))) ∙ row_of_set

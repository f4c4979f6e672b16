use Rattle.resp_core.proofs.value.+plain.Goals as goal

pub Value::is_plain-returns-in-List : goal.Value::is_plain-returns-in-List
Value::is_plain-returns-in-List t c = rw c.in-List.is c.are_plain.ensures

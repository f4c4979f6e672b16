use Rattle.std.proofs.Common.{Some, ap}
use Rattle.proxy_core.specs.declared.state.connection.Connection.{Connection}
use Rattle.proxy_core.proofs.state.connections.answer_one.Goals as goal

pub set_part-requires : goal.set_part-requires
set_part-requires c = rw c.in-Some.is at c.requires

pub returns-in-Some : goal.returns-in-Some
returns-in-Some c =
    rw c.in-Some.is (ap (λ q. let k : Connection = record { queue = q; is_finishing = c.in-Some.connection.is_finishing } in Some k) c.set_part.ensures)

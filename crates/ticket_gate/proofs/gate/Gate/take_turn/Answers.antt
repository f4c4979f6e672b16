use Rattle.std.proofs.Common.{rules}
use Rattle.ticket_gate.proofs.gate.Gate.take_turn.Goals as goal

pub returns-in_default-clause-refused : goal.returns-in_default-clause-refused
returns-in_default-clause-refused g c = search rules

use Rattle.std.proofs.Common.{rules}
use Rattle.ticket_gate.proofs.gate.Gate.try_turn.Goals as goal

pub returns-in-Err-Busy-clause-refused : goal.returns-in-Err-Busy-clause-refused
returns-in-Err-Busy-clause-refused g c = search rules

use Rattle.std.proofs.Common.{rules}
use Rattle.ticket_gate.proofs.seated.Seated.into_pass.Goals as goal

pub returns-clause-pass : goal.returns-clause-pass
returns-clause-pass g c = search rules

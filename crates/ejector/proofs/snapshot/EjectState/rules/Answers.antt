use Rattle.std.proofs.Common.{ap}
use Rattle.ejector.specs.Ejector.{Ejection}
use Rattle.ejector.proofs.snapshot.EjectState.rules.Goals as goal

pub returns-clause-rules : goal.returns-clause-rules
returns-clause-rules c = ap (λ (e : Ejection). e.rules) c.self.view_is

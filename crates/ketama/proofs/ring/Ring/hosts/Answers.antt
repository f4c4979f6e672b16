use Rattle.std.proofs.Common.{ap}
use Rattle.ketama.specs.Continuum.{Continuum}
use Rattle.ketama.proofs.ring.Ring.hosts.Goals as goal

pub returns-clause-value : goal.returns-clause-value
returns-clause-value c = ap (λ (r : Continuum). r.hosts) c.self.view_is

use Rattle.std.proofs.Common.{ap}
use Rattle.ketama.specs.Continuum.{Continuum}
use Rattle.ketama.proofs.ring.Ring.digests.Goals as goal

pub returns : goal.returns
returns c = ap (λ (r : Continuum). r.digests) c.self.view_is

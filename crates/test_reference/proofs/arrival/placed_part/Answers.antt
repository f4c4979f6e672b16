use Rattle.std.proofs.Common.{refl}
use Rattle.test_reference.proofs.arrival.placed_part.Goals as goal
use Rattle.test_reference.proofs.arrival.placed_part.Goals.{in-None, in-Some}

pub returns : goal.returns
returns c = elim c.match-host.branch [
  | in-None w ↦ rw (w.host-is, w.epoch-is, w.in-None.is, c.in_ok-text.ensures.cases) refl
  | in-Some w ↦ rw (w.host-is, w.epoch-is, w.in-Some.is, c.in_ok-text.ensures.cases, w.at_host.ensures.epoch, w.at_host.ensures.local) refl
]

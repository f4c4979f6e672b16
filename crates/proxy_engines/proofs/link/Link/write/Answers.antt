use Rattle.std.proofs.Common.{ap, refl, true, false}
use Rattle.proxy_engines.specs.Faults.{told_by_outcome}
use Rattle.proxy_engines.proofs.HostMoves.{wrote_on}
use Rattle.proxy_engines.proofs.MoveLemmas.{as-none}
use Rattle.proxy_engines.proofs.link.Link.write.Goals as goal
use Rattle.proxy_engines.proofs.link.Link.write.Goals.{in-Moved, in-Idle, in-End}

pub returns-clause-goes : goal.returns-clause-goes
returns-clause-goes g c = λ H m.
    let (gave, rest, held, taken, pending, outbox_is, moved) = c.write_to.ensures.bytes in
    rw (outbox_is, ← c.self.view_is)
    (elim c.match-write_to.branch [
      | in-Moved w ↦ rw w.result-is (wrote_on c.args.outbox.now _ _ gave rest H m true (rw w.in-Moved.is at moved) refl refl held taken pending)
      | in-Idle w ↦ rw w.result-is (wrote_on c.args.outbox.now _ _ gave rest H m false (rw w.in-Idle.is at moved) refl refl held taken pending)
      | in-End w ↦ as-none _ _ (ap told_by_outcome w.result-is) (_, wrote_on c.args.outbox.now _ _ gave rest H m _ moved refl refl held taken pending)
    ])

use Rattle.std.proofs.Common.{take, drop, take-append-drop, sym, refl}
use Rattle.proxy_engines.proofs.MoveLemmas.{has_moved-take}
use Rattle.proxy_engines.proofs.host_outbox.HostOutbox.write_to.Goals as goal

pub returns-in-Moved-clause-bytes : goal.returns-in-Moved-clause-bytes
returns-in-Moved-clause-bytes g c =
    let told = c.in-Moved.ensures.told in
    (take c.in-Moved.n c.self.inside.pending, drop c.in-Moved.n c.self.inside.pending, rw c.as_slice.ensures at told.next, rw c.as_slice.ensures at told.taken, rw (← c.self.view_is) (sym (take-append-drop c.in-Moved.n c.self.inside.pending)), rw (← c.self.view_is, c.advance.ensures) refl, has_moved-take c.in-Moved.n c.self.inside.pending told.some (rw c.as_slice.ensures at told.fits))

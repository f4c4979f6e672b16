use Rattle.std.proofs.Common.{take, length-drop, take-append-drop, sym, rules, arith}
use Rattle.proxy_engines.proofs.MoveLemmas.{has_moved-take}
use Rattle.proxy_engines.proofs.outbox.Outbox.write_once.Goals as goal

pub returns-in-Moved : goal.returns-in-Moved
returns-in-Moved g c =
    let told = c.in-Moved.ensures.told in
    record {
      writes = record {
        bytes = (
          take c.in-Moved.n c.self.inside.pending,
          record {
            writes = record {
              held = rw (← c.self.view_is) (rw c.as_slice.ensures at told.next);
              taken = rw (← c.self.view_is) (rw c.as_slice.ensures at told.taken);
            };
            pending = rw (← c.self.view_is, c.advance.ensures) (sym (take-append-drop c.in-Moved.n c.self.inside.pending));
          },
          has_moved-take c.in-Moved.n c.self.inside.pending told.some (rw c.as_slice.ensures at told.fits),
        );
        fewer = let inside = rw c.as_slice.ensures at told.fits in
            rw (← c.self.view_is, c.advance.ensures) (λ n is. omega (arith, length-drop c.in-Moved.n c.self.inside.pending, told.some, inside));
        counts = search rules;
      };
    }

use Rattle.std.proofs.Common.{take, append-nil, ◌∙◌, ◌++◌, sym, ap, arith}
use Rattle.std.proofs.lemmas.Grind.{common_steps}
use Rattle.socket_halves.proofs.write_buffer.WriteBuffer.write_through.Goals as goal
use Rattle.socket_halves.proofs.write_buffer.WriteBuffer.write_through.Goals.{else-count-eq0-via-then-count-eq0+else-not-is_empty, else-count-eq0-via-else-count-eq0}

pub returns-else-count-eq0-clause-accepts : goal.returns-else-count-eq0-clause-accepts
returns-else-count-eq0-clause-accepts g c =
    let bytes = take c.in-Ok.count c.args.bytes.now in
    let none = rw (← c.self.view_is) at c.requires in
    record {
      goes_out = elim c.else-count-eq0.branch [
        | else-count-eq0-via-then-count-eq0+else-not-is_empty w ↦ rw w.self-is (record {
          gave = bytes;
          taken = rw (← c.self.view_is) c.and-self-inside.ensures;
          held = rw (← c.self.view_is) c.in-Ok.ensures.bytes;
          left = rw (← c.self.view_is) (ap (λ t. bytes ++ t) none ∙ append-nil bytes ∙ sym (ap (λ t. t ++ bytes) none));
        })
        | else-count-eq0-via-else-count-eq0 w ↦ rw w.self-is (record {
          gave = bytes;
          taken = rw (← c.self.view_is) c.and-self-inside.ensures;
          held = rw (← c.self.view_is) c.in-Ok.ensures.bytes;
          left = rw (← c.self.view_is) (ap (λ t. bytes ++ t) none ∙ append-nil bytes ∙ sym (ap (λ t. t ++ bytes) none));
        })
      ];
      paused = tt;
      failed = tt;
      nothing = grind (arith, common_steps);
    }

use Rattle.std.proofs.Common.{rules, arith}
use Rattle.std.proofs.lemmas.Grind.{common_steps}
use Rattle.socket_halves.proofs.WriteBufferLemmas.{GoesOut-same}
use Rattle.socket_halves.proofs.write_buffer.WriteBuffer.write_out.Goals as goal

pub returns-then-not-is_empty-clause-writes : goal.returns-then-not-is_empty-clause-writes
returns-then-not-is_empty-clause-writes g c = c.write_gathered.ensures

pub returns-clause-writes : goal.returns-clause-writes
returns-clause-writes g c = record {
  goes_out = GoesOut-same _ _ _ _ c.write_gathered.ensures.goes_out (grind (arith, common_steps)) (grind (arith, common_steps))
      (grind (arith, common_steps));
  bound_is = grind (arith, common_steps);
  ends = grind (arith, common_steps);
  whole = grind (arith, common_steps);
  broken = grind (arith, common_steps);
}

pub returns-then-not-is_empty-clause-back : goal.returns-then-not-is_empty-clause-back
returns-then-not-is_empty-clause-back g c = search rules fits 300

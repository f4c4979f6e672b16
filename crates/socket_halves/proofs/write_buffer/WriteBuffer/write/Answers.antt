use Rattle.std.proofs.Common.{[], arith}
use Rattle.std.proofs.lemmas.Grind.{common_steps}
use Rattle.socket_halves.specs.WriteBuffer.{GoesOut}
use Rattle.socket_halves.proofs.WriteBufferLemmas.{Accepts-then, Accepts-append, StaysWritable-append}
use Rattle.socket_halves.proofs.write_buffer.WriteBuffer.write.Goals as goal

pub returns-then-bytes-self-clause-writes : goal.returns-then-bytes-self-clause-writes
returns-then-bytes-self-clause-writes g c = record {
  accepts = Accepts-then c.args.self.now c.make_room.new.self c.write_long.new.self c.args.bytes.now c.write_long.result
      c.make_room.ensures.goes_out c.write_long.ensures.accepts;
  limit = grind (arith, common_steps);
  bound_is = grind (arith, common_steps);
  broken = grind (arith, common_steps);
  whole = grind (arith, common_steps);
}

pub returns-in-Err-clause-writes : goal.returns-in-Err-clause-writes
returns-in-Err-clause-writes g c =
    let old = c.args.self.now in
    let mid = c.append.new.self in
    let out : GoesOut old mid [] = rw (c.in-Err.ensures.err) c.make_room.ensures.goes_out in
    record {
      accepts = Accepts-then old mid c.write_long-in-Err.new.self c.args.bytes.now c.write_long-in-Err.result out
          c.write_long-in-Err.ensures.accepts;
      limit = grind (arith, common_steps);
      bound_is = grind (arith, common_steps);
      broken = grind (arith, common_steps);
      whole = grind (arith, common_steps);
    }

pub returns-in-Ok-clause-writes : goal.returns-in-Ok-clause-writes
returns-in-Ok-clause-writes g c = record {
  accepts = Accepts-append c.args.self.now c.make_room.new.self c.append.new.self c.args.bytes.now
      c.make_room.ensures.goes_out c.in-Ok.ensures.ok;
  limit = grind (arith, common_steps);
  bound_is = grind (arith, common_steps);
  broken = grind (arith, common_steps);
  whole = λ all. StaysWritable-append c.args.self.now c.make_room.new.self c.append.new.self c.args.bytes.now c.make_room.ensures.whole
      c.in-Ok.ensures.ok;
}

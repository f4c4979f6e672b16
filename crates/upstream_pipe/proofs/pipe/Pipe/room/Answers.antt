use Rattle.std.proofs.Common.{rules, arith}
use Rattle.std.proofs.lemmas.Grind.{common_steps}
use Rattle.upstream_pipe.proofs.pipe.Pipe.room.Goals as goal

pub returns : goal.returns
returns c =
    let first = c.in_ok-reserve.ensures in
    let second = c.in_ok-reserve-2.ensures in
    record {
      room = omega (arith, first.ok, first.len, second.ok, second.len, c.len.ensures);
      reserved = search rules;
      memory = search rules;
      kept = grind (arith, common_steps);
      waiting = grind (arith, common_steps);
      flying = grind (arith, common_steps);
      epoch = grind (arith, common_steps);
      taken = grind (arith, common_steps);
    }

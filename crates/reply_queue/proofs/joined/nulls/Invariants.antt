use Rattle.std.proofs.Common.{◌≡◌, ◌≤◌, vec_len, vec_capacity}
use Rattle.reply_queue.proofs.joined.nulls.Given as goal

abbrev pub invariant-loop : goal.invariant-loop
invariant-loop l = record {
  len : vec_len l.values ≡ l.counter;
  capacity : l.count ≤ vec_capacity l.values;
}

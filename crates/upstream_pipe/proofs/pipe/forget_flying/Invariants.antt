use Rattle.std.proofs.Common.{◌≡◌, ◌++◌, map, take, drop}
use Rattle.std.specs.VecDeque.{deque_len, deque_capacity}
use Rattle.upstream_pipe.specs.Pipe.{forgotten_owner}
use Rattle.upstream_pipe.proofs.pipe.forget_flying.Given as goal

abbrev pub invariant-loop : goal.invariant-loop
invariant-loop l = record {
  items : l.flying.items ≡ drop l.counter l.initial.flying.items ++ map (forgotten_owner l.conn) (take l.counter l.initial.flying.items);
  len : deque_len l.flying ≡ deque_len l.initial.flying;
  capacity : deque_capacity l.flying ≡ deque_capacity l.initial.flying;
}

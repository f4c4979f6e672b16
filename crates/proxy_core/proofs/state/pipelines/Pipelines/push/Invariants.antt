-- There is room for the parts that are left, and with them all will be pushed.
use Rattle.std.proofs.Common.{◌≡◌}
use Rattle.std.specs.Vec.Iter.{into_iter_items}
use Rattle.proxy_core.specs.Arrivals.{HaveRoom, pushed_all}
use Rattle.proxy_core.proofs.state.pipelines.Pipelines.push.Given as goal

abbrev pub invariant-loop-part : goal.invariant-loop-part
invariant-loop-part l = record {
  room : HaveRoom (into_iter_items l.part-iterator) l.self;
  pushed : pushed_all l.conn l.command (into_iter_items l.part-iterator) l.self.states
      ≡ pushed_all l.conn l.command l.fn.placed.items l.fn.self.states;
}

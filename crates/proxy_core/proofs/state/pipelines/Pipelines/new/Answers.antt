use Rattle.std.proofs.Common.{map, ap, ◌∙◌, arith}
use Rattle.proxy_core.specs.Pipelines.{state_of}
use Rattle.proxy_core.proofs.turn.FreshMachine.{fresh_more}
use Rattle.proxy_core.proofs.pipelines.StateOfLemmas.{state_of-new}
use Rattle.proxy_core.proofs.state.pipelines.Pipelines.new.Goals as goal

pub loop-preserved : goal.loop-preserved
loop-preserved c = record {
  fresh = ap (map state_of) c.push_reserved.ensures.items ∙ fresh_more c.loop.by_host.items c.new.result c.loop.counter c.loop.invariant.fresh
      (state_of-new c.new.result c.new.ensures.waiting c.new.ensures.flying c.new.ensures.epoch c.new.ensures.taken);
  len = omega (arith, c.push_reserved.ensures.len, c.loop.invariant.len);
  capacity = omega (arith, c.push_reserved.ensures.capacity, c.loop.invariant.capacity);
}

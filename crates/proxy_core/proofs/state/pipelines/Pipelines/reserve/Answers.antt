use Rattle.std.proofs.Common.{◌∙◌, arith}
use Rattle.proxy_core.proofs.pipelines.HaveRoomLemmas.{room_more}
use Rattle.proxy_core.proofs.state.pipelines.Pipelines.reserve.Goals as goal

pub reserve_one-requires : goal.reserve_one-requires
reserve_one-requires c = rw c.loop-host.invariant.same (omega (arith, c.requires, c.loop-host-test.true))

pub loop-host-preserved : goal.loop-host-preserved
loop-host-preserved c = record {
  room = room_more c.args.counts.now c.loop-host.host c.loop-host.self c.reserve_one.new.self
      (omega (arith, c.from.ensures, c.in_ok-reserve_one.ensures.room)) c.reserve_one.ensures.others c.loop-host.invariant.room;
  same = c.reserve_one.ensures.same ∙ c.loop-host.invariant.same;
}

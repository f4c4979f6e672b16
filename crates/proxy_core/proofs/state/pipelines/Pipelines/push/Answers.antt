use Rattle.std.proofs.Common.{ap, ◌∙◌, subst}
use Rattle.std.specs.Vec.Iter.{into_iter_items}
use Rattle.proxy_core.specs.Arrivals.{HaveRoom, pushed_all, piped_as}
use Rattle.proxy_core.proofs.pipelines.HaveRoomLemmas.{may_wait, room_for_rest}
use Rattle.proxy_core.proofs.state.pipelines.Pipelines.push.Goals as goal

pub push_one-requires : goal.push_one-requires
push_one-requires c =
    let room = subst (λ ps. HaveRoom ps c.loop-part.self) (c.in-Some.ensures.steps).0 c.loop-part.invariant.room in
    may_wait c.in-Some.part (into_iter_items c.next.new.self) c.loop-part.self room

pub loop-part-preserved : goal.loop-part-preserved
loop-part-preserved c =
    let first = (c.in-Some.ensures.steps).0 in
    let rest = into_iter_items c.next.new.self in
    let room = subst (λ ps. HaveRoom ps c.loop-part.self) first c.loop-part.invariant.room in
    let pushed = rw first at c.loop-part.invariant.pushed in
    record {
      room = room_for_rest c.in-Some.part (piped_as c.args.conn c.args.command c.in-Some.part) rest c.loop-part.self c.push_one.new.self
          c.push_one.ensures.pushed c.push_one.ensures.room room;
      pushed = ap (pushed_all c.args.conn c.args.command rest) c.push_one.ensures.pushed ∙ pushed;
    }

use Rattle.std.proofs.Common.{get_or, slice_set, ap, ◌∙◌, arith}
use Rattle.proxy_core.specs.Pipelines.{PipelineTable, table_of, with_waiting}
use Rattle.proxy_core.specs.Arrivals.{MayWait, piped_as}
use Rattle.proxy_core.specs.declared.state.place.Place.TheVariants.{Waits}
use Rattle.proxy_core.proofs.pipelines.PipelineTableLemmas.{length-table, room_shown, states_changed, room_changed, room_of_other}
use Rattle.proxy_core.proofs.pipelines.StateOfLemmas.{state_of-push}
use Rattle.proxy_core.proofs.pipelines.HaveRoomLemmas.{room_used}
use Rattle.proxy_core.proofs.state.pipelines.Pipelines.push_one.Goals as goal

pub index_mut-requires : goal.index_mut-requires
index_mut-requires c =
    let may : MayWait (Waits c.in-Waits.host) c.args.self.now = rw c.in-Waits.is at c.requires in
    omega (arith, may.0, length-table c.self.inside.by_host.items c.args.self.now c.self.view_is, c.self.inside.by_host.ok.0)

pub returns-in-Ok-clause-pushed : goal.returns-in-Ok-clause-pushed
returns-in-Ok-clause-pushed c =
    let change = with_waiting (piped_as c.args.conn c.args.command c.args.placed) in
    rw (c.in-Waits.is, ← c.self.view_is)
    (states_changed change c.self.inside.by_host.items c.in-Waits.host c.index_mut.result.now c.push.new.self c.index_mut.result.now c.index_mut.ensures.value
    (state_of-push c.index_mut.result.now c.push.new.self (piped_as c.args.conn c.args.command c.args.placed) c.in-Ok.ensures.waiting c.push.ensures.flying c.push.ensures.epoch c.push.ensures.taken))

pub returns-in-Ok-clause-room : goal.returns-in-Ok-clause-room
returns-in-Ok-clause-room c =
    let items = c.self.inside.by_host.items in
    let table = c.args.self.now in
    let host = c.in-Waits.host in
    let may : MayWait (Waits host) table = rw c.in-Waits.is at c.requires in
    let long = length-table items table c.self.view_is in
    let had = room_shown c.self.inside.by_host.items c.args.self.now c.in-Waits.host c.index_mut.result.now c.self.view_is may.0 c.index_mut.ensures.value in
    let has = room_changed items host c.push.new.self (omega (arith, may.0, long)) in
    rw c.in-Waits.is (room_used table (table_of (slice_set items host c.push.new.self)) host (omega (arith, had, has, c.in-Ok.ensures.room))
    (λ h n. room_of_other items host h c.push.new.self n ∙ ap (λ (t : PipelineTable). get_or t.room h 0) c.self.view_is))

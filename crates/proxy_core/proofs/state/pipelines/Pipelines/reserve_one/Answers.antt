use Rattle.std.proofs.Common.{get_or, ap, ◌∙◌, arith}
use Rattle.proxy_core.specs.Pipelines.{PipelineTable}
use Rattle.proxy_core.proofs.pipelines.PipelineTableLemmas.{length-table, states_same, room_changed, room_of_other}
use Rattle.proxy_core.proofs.pipelines.StateOfLemmas.{state_of-room}
use Rattle.proxy_core.proofs.state.pipelines.Pipelines.reserve_one.Goals as goal
use Rattle.proxy_core.proofs.state.pipelines.Pipelines.reserve_one.Goals.{in-Ok, in-Err}

pub index_mut-requires : goal.index_mut-requires
index_mut-requires c = omega (arith, c.requires, length-table c.self.inside.by_host.items c.args.self.now c.self.view_is, c.self.inside.by_host.ok.0)

pub returns-clause-room : goal.returns-clause-room
returns-clause-room c =
    let items = c.self.inside.by_host.items in
    let has = room_changed items c.args.host c.room.new.self (omega (arith, c.requires, length-table items c.args.self.now c.self.view_is)) in
    elim c.match-room.branch [
      | in-Ok w ↦ rw w.result-is (omega (arith, w.in-Ok.ensures.room, has))
      | in-Err w ↦ rw w.result-is tt
    ]

pub returns-clause-others : goal.returns-clause-others
returns-clause-others c = λ h n.
    room_of_other c.self.inside.by_host.items c.args.host h c.room.new.self n ∙ ap (λ (t : PipelineTable). get_or t.room h 0) c.self.view_is

pub returns-clause-same : goal.returns-clause-same
returns-clause-same c =
    rw (← c.self.view_is) (states_same c.self.inside.by_host.items c.args.host c.index_mut.result.now c.room.new.self c.index_mut.result.now c.index_mut.ensures.value
    (state_of-room c.index_mut.result.now c.room.new.self c.room.ensures.waiting c.room.ensures.flying c.room.ensures.epoch c.room.ensures.taken))

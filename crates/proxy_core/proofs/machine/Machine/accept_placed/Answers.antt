use Rattle.std.proofs.Common.{refl, ap, ◌∙◌}
use Rattle.proxy_core.specs.Connections.{ConnectionTable}
use Rattle.proxy_core.specs.Arrivals.{counted_as}
use Rattle.proxy_core.proofs.pipelines.HaveRoomLemmas.{have_room}
use Rattle.proxy_core.proofs.machine.Machine.accept_placed.Goals as goal

pub reserve-requires : goal.reserve-requires
reserve-requires c = c.requires.counted.as_many

pub enqueue-requires-clause-open : goal.enqueue-requires-clause-open
enqueue-requires-clause-open c = c.requires.open

pub enqueue-requires-clause-join : goal.enqueue-requires-clause-join
enqueue-requires-clause-join c = c.requires.join

pub enqueue-requires-clause-parts : goal.enqueue-requires-clause-parts
enqueue-requires-clause-parts c = c.requires.parts

pub returns-clause-accepted : goal.returns-clause-accepted
returns-clause-accepted c = record {
  answer_is = c.counted.ensures ∙ ap (λ i. counted_as i c.args.placed.now) c.in_ok-index.ensures.index;
  connections = ap (λ (t : ConnectionTable). t.numbered) c.in_ok-index.ensures.accepted;
  closed = ap (λ (t : ConnectionTable). t.closed) c.in_ok-index.ensures.accepted;
  waiting = c.reserve.ensures.same;
  room = have_room c.args.placed.now c.args.counts.now c.args.self.now.pipelines c.reserve.new.self c.reserve.ensures.same c.requires.counted c.in_ok-reserve.ensures.room;
  setting = refl;
  steps = refl;
  records = refl;
  bytes = refl;
  hosts = refl;
}

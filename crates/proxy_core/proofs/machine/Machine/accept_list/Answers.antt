use Rattle.std.proofs.Common.{replicate, length, refl, sym, ap, ◌∙◌, subst, arith}
use Rattle.std.proofs.lemmas.List.{take-replicate}
use Rattle.proxy_history.specs.History.{accepted_count}
use Rattle.proxy_core.specs.Machine.{memory_in}
use Rattle.proxy_core.specs.Places.{AreCounted}
use Rattle.proxy_core.specs.Arrivals.{HasAccepted, HaveRoom}
use Rattle.proxy_core.proofs.arrivals.TellsLemmas.{pushed-accepted}
use Rattle.proxy_core.proofs.machine.Machine.accept_list.Goals as goal

pub place_parts-requires-clause-counts : goal.place_parts-requires-clause-counts
place_parts-requires-clause-counts c =
    take-replicate c.hosts.result 64 0 c.hosts.ensures.few
    ∙ ap (λ n. replicate n 0) (c.hosts.ensures.value ∙ sym c.requires.hosts ∙ sym c.requires.pipelines)

pub accept_placed-requires-clause-open : goal.accept_placed-requires-clause-open
accept_placed-requires-clause-open c = c.requires.open

pub accept_placed-requires-clause-counted : goal.accept_placed-requires-clause-counted
accept_placed-requires-clause-counted c =
    subst (AreCounted (memory_in c.args.self.now).pipelines c.place_parts.new.counts) (sym c.deref.ensures.value) c.in_ok-placed.ensures.counted

pub accept_placed-requires-clause-join : goal.accept_placed-requires-clause-join
accept_placed-requires-clause-join c =
    let many = ap length c.deref.ensures.value ∙ c.in_ok-placed.ensures.parts in
    rw many c.requires.join.0

pub accept_placed-requires-clause-parts : goal.accept_placed-requires-clause-parts
accept_placed-requires-clause-parts c =
    let many = ap length c.deref.ensures.value ∙ c.in_ok-placed.ensures.parts in
    omega (arith, many, c.requires.join.1)

pub push-requires : goal.push-requires
push-requires c = subst (λ ps. HaveRoom ps c.accept_placed.new.self.pipelines) c.deref.ensures.value c.in-Ok.ensures.accepted.room

pub returns-in-Ok-clause-accepted : goal.returns-in-Ok-clause-accepted
returns-in-Ok-clause-accepted c = λ x tells.
    let m = c.args.self.now in
    let accepted = subst (λ ps. HasAccepted m c.accept_placed.new.self c.args.conn c.args.how ps c.in-Ok.accepted) c.deref.ensures.value c.in-Ok.ensures.accepted in
    pushed-accepted m c.accept_placed.new.self _ c.args.conn c.args.how c.args.list x c.in_ok-placed.placed.items c.in-Ok.accepted accepted tells c.requires.open
    (c.in_ok-placed.ensures.placed x c.args.conn (accepted_count c.args.conn x.steps) tells) c.push.ensures refl refl refl refl

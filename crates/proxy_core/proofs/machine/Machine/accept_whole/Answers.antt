use Rattle.std.proofs.Common.{replicate, length, [], ◌∷◌, refl, sym, ap, ◌∙◌, subst}
use Rattle.std.proofs.lemmas.List.{take-replicate}
use Rattle.splitter.specs.Part.{part_of}
use Rattle.splitter.specs.declared.plans.Join.TheVariants.{Same}
use Rattle.proxy_history.specs.History.{accepted_count}
use Rattle.proxy_core.specs.Machine.{memory_in}
use Rattle.proxy_core.specs.Places.{AreCounted}
use Rattle.proxy_core.specs.Arrivals.{HasAccepted, HaveRoom}
use Rattle.proxy_core.proofs.arrivals.TellsLemmas.{pushed-accepted}
use Rattle.proxy_core.proofs.pipelines.HaveRoomLemmas.{may_wait}
use Rattle.proxy_core.proofs.machine.Machine.accept_whole.Goals as goal

pub place_whole-placed-requires-clause-counts : goal.place_whole-placed-requires-clause-counts
place_whole-placed-requires-clause-counts c =
    take-replicate c.hosts.result 64 0 c.hosts.ensures.few
    ∙ ap (λ n. replicate n 0) (c.hosts.ensures.value ∙ sym c.requires.hosts ∙ sym c.requires.pipelines)

pub accept_placed-requires-clause-open : goal.accept_placed-requires-clause-open
accept_placed-requires-clause-open c = c.requires.open

pub accept_placed-requires-clause-counted : goal.accept_placed-requires-clause-counted
accept_placed-requires-clause-counted c =
    subst (AreCounted (memory_in c.args.self.now).pipelines c.place_whole-placed.new.counts) (sym c.from_ref.ensures.value) c.place_whole-placed.ensures.counted

pub accept_placed-requires-clause-join : goal.accept_placed-requires-clause-join
accept_placed-requires-clause-join c = ap length c.from_ref.ensures.value

pub push_one-requires : goal.push_one-requires
push_one-requires c =
    may_wait c.place_whole-placed.result [] c.accept_placed.new.self.pipelines
    (subst (λ ps. HaveRoom ps c.accept_placed.new.self.pipelines) c.from_ref.ensures.value c.in-Ok.ensures.accepted.room)

pub returns-in-Ok-clause-accepted : goal.returns-in-Ok-clause-accepted
returns-in-Ok-clause-accepted c = λ x tells.
    let m = c.args.self.now in
    let list = part_of c.args.key.now c.args.text ∷ [] in
    let accepted = subst (λ ps. HasAccepted m c.accept_placed.new.self c.args.conn Same ps c.in-Ok.accepted) c.from_ref.ensures.value c.in-Ok.ensures.accepted in
    pushed-accepted m c.accept_placed.new.self _ c.args.conn Same list x (c.place_whole-placed.result ∷ []) c.in-Ok.accepted accepted tells c.requires.open
    (c.place_whole-placed.ensures.placed x c.args.conn (accepted_count c.args.conn x.steps) tells) c.push_one.ensures.pushed refl refl refl refl

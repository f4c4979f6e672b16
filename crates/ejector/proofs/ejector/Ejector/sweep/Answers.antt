use Rattle.std.proofs.Common.{ap, ◌∙◌}
use Rattle.ejector.specs.declared.mark.Mark.TheVariants.{Sweep}
use Rattle.ejector.specs.Counting.{swept_counts}
use Rattle.ejector.specs.State.{State}
use Rattle.ejector.proofs.NextStateLemmas.{sweep_next, told, swept_told}
use Rattle.ejector.proofs.OpeningLemmas.{opening_after}
use Rattle.ejector.proofs.ejector.Ejector.sweep.Goals as goal

pub invariant_of-self : goal.invariant_of-self
invariant_of-self c =
    let R = c.self.inside.rules in
    let x : State = record { clock = c.self.inside.clock; hosts = c.self.inside.hosts.items } in
    let next =
    sweep_next R x c.args.t c.max-self-inside.result c.self.inside.hosts.len c.take_sweep.new.hosts c.deref_mut.result.now c.self.invariant.1
    c.max-self-inside.ensures c.deref_mut.ensures.value (c.take_sweep.auto.hosts ∙ c.deref_mut.ensures.len) c.take_sweep.ensures.hosts in
    (c.self.invariant.0, opening_after R (Sweep c.args.t) x _ c.self.invariant.1 next)

pub returns-clause-state : goal.returns-clause-state
returns-clause-state c =
    let R = c.self.inside.rules in
    let x : State = record { clock = c.self.inside.clock; hosts = c.self.inside.hosts.items } in
    let next =
    sweep_next R x c.args.t c.max-self-inside.result c.self.inside.hosts.len c.take_sweep.new.hosts c.deref_mut.result.now c.self.invariant.1
    c.max-self-inside.ensures c.deref_mut.ensures.value (c.take_sweep.auto.hosts ∙ c.deref_mut.ensures.len) c.take_sweep.ensures.hosts in
    told c.args.self.now R x _ (Sweep c.args.t) c.self.view_is next

pub returns-clause-swept : goal.returns-clause-swept
returns-clause-swept c =
    let R = c.self.inside.rules in
    let x : State = record { clock = c.self.inside.clock; hosts = c.self.inside.hosts.items } in
    let counts =
    c.take_sweep.ensures.swept ∙ ap (swept_counts R c.max-self-inside.result) c.deref_mut.ensures.value
    ∙ ap (λ now. swept_counts R now x.hosts) c.max-self-inside.ensures in
    swept_told c.args.self.now R x c.args.t c.self.view_is c.self.invariant.1.hosts c.take_sweep.result counts

pub returns-clause-limit : goal.returns-clause-limit
returns-clause-limit c =
    let R = c.self.inside.rules in
    let x : State = record { clock = c.self.inside.clock; hosts = c.self.inside.hosts.items } in
    let next =
    sweep_next R x c.args.t c.max-self-inside.result c.self.inside.hosts.len c.take_sweep.new.hosts c.deref_mut.result.now c.self.invariant.1
    c.max-self-inside.ensures c.deref_mut.ensures.value (c.take_sweep.auto.hosts ∙ c.deref_mut.ensures.len) c.take_sweep.ensures.hosts in
    let opening = opening_after R (Sweep c.args.t) x _ c.self.invariant.1 next in
    opening.few_out

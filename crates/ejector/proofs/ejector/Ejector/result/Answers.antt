use Rattle.std.proofs.Common.{◌<◌, ◌∷◌, sym, ap, ◌∙◌, subst}
use Rattle.ejector.specs.declared.mark.Mark.TheVariants.{Good, Bad}
use Rattle.ejector.specs.Counting.{trip_then}
use Rattle.ejector.specs.Ejection.{state, trip}
use Rattle.ejector.specs.Ejector.{Ejection, result_mark}
use Rattle.ejector.specs.State.{State}
use Rattle.ejector.proofs.NextStateLemmas.{good_next, bad_next, told, trip_told}
use Rattle.ejector.proofs.OpeningLemmas.{opening_after}
use Rattle.ejector.proofs.ejector.Ejector.result.Goals as goal

-- GOOD RESULTS

pub invariant_of-self : goal.invariant_of-self
invariant_of-self c =
    let R = c.self.inside.rules in
    let x : State = record { clock = c.self.inside.clock; hosts = c.self.inside.hosts.items } in
    let among : c.args.host < R.hosts = subst (λ (e : Ejection). c.args.host < e.rules.hosts) (sym c.self.view_is) c.requires in
    let next =
    good_next R x c.args.host c.args.t c.max-self-inside.result c.self.inside.hosts.len c.take_good.new.hosts c.deref_mut.result.now c.self.invariant.1
    among c.max-self-inside.ensures c.deref_mut.ensures.value (c.take_good.auto.hosts ∙ c.deref_mut.ensures.len) c.take_good.ensures in
    (c.self.invariant.0, opening_after R (Good c.args.host c.args.t) x _ c.self.invariant.1 next)

pub returns-then-ok-clause-state : goal.returns-then-ok-clause-state
returns-then-ok-clause-state c O marks known =
    let R = c.self.inside.rules in
    let x : State = record { clock = c.self.inside.clock; hosts = c.self.inside.hosts.items } in
    let among : c.args.host < R.hosts = subst (λ (e : Ejection). c.args.host < e.rules.hosts) (sym c.self.view_is) c.requires in
    let next =
    good_next R x c.args.host c.args.t c.max-self-inside.result c.self.inside.hosts.len c.take_good.new.hosts c.deref_mut.result.now c.self.invariant.1
    among c.max-self-inside.ensures c.deref_mut.ensures.value (c.take_good.auto.hosts ∙ c.deref_mut.ensures.len) c.take_good.ensures in
    told c.args.self.now R x _ (Good c.args.host c.args.t) c.self.view_is next O marks known
    ∙ ap (λ ok. state c.args.self.now.rules O (result_mark ok c.args.host c.args.t ∷ marks)) (sym c.if-ok.true)

pub returns-then-ok-clause-trip : goal.returns-then-ok-clause-trip
returns-then-ok-clause-trip c O marks known =
    ap (λ ok. trip c.args.self.now.rules O (result_mark ok c.args.host c.args.t) marks) (sym c.if-ok.true)

-- BAD RESULTS

pub invariant_of-self-2 : goal.invariant_of-self-2
invariant_of-self-2 c =
    let R = c.self.inside.rules in
    let x : State = record { clock = c.self.inside.clock; hosts = c.self.inside.hosts.items } in
    let among : c.args.host < R.hosts = subst (λ (e : Ejection). c.args.host < e.rules.hosts) (sym c.self.view_is) c.requires in
    let next =
    bad_next R x c.args.host c.args.t c.max-self-inside.result c.self.inside.hosts.len c.take_bad.new.hosts c.deref_mut-2.result.now c.self.invariant.1
    among c.max-self-inside.ensures c.deref_mut-2.ensures.value (c.take_bad.auto.hosts ∙ c.deref_mut-2.ensures.len) c.take_bad.ensures.hosts in
    (c.self.invariant.0, opening_after R (Bad c.args.host c.args.t) x _ c.self.invariant.1 next)

pub returns-clause-state : goal.returns-clause-state
returns-clause-state c O marks known =
    let R = c.self.inside.rules in
    let x : State = record { clock = c.self.inside.clock; hosts = c.self.inside.hosts.items } in
    let among : c.args.host < R.hosts = subst (λ (e : Ejection). c.args.host < e.rules.hosts) (sym c.self.view_is) c.requires in
    let next =
    bad_next R x c.args.host c.args.t c.max-self-inside.result c.self.inside.hosts.len c.take_bad.new.hosts c.deref_mut-2.result.now c.self.invariant.1
    among c.max-self-inside.ensures c.deref_mut-2.ensures.value (c.take_bad.auto.hosts ∙ c.deref_mut-2.ensures.len) c.take_bad.ensures.hosts in
    told c.args.self.now R x _ (Bad c.args.host c.args.t) c.self.view_is next O marks known
    ∙ ap (λ ok. state c.args.self.now.rules O (result_mark ok c.args.host c.args.t ∷ marks)) (sym c.if-ok.false)

pub returns-clause-trip : goal.returns-clause-trip
returns-clause-trip c O marks known =
    let R = c.self.inside.rules in
    let x : State = record { clock = c.self.inside.clock; hosts = c.self.inside.hosts.items } in
    let among : c.args.host < R.hosts = subst (λ (e : Ejection). c.args.host < e.rules.hosts) (sym c.self.view_is) c.requires in
    let told = c.take_bad.ensures.trip ∙ ap (trip_then R c.args.host) c.deref_mut-2.ensures.value in
    trip_told c.args.self.now R x c.args.host c.args.t c.self.view_is among c.take_bad.result told O marks known
    ∙ ap (λ ok. trip c.args.self.now.rules O (result_mark ok c.args.host c.args.t) marks) (sym c.if-ok.false)

pub returns-clause-limit : goal.returns-clause-limit
returns-clause-limit c =
    let R = c.self.inside.rules in
    let x : State = record { clock = c.self.inside.clock; hosts = c.self.inside.hosts.items } in
    let among : c.args.host < R.hosts = subst (λ (e : Ejection). c.args.host < e.rules.hosts) (sym c.self.view_is) c.requires in
    let next =
    bad_next R x c.args.host c.args.t c.max-self-inside.result c.self.inside.hosts.len c.take_bad.new.hosts c.deref_mut-2.result.now c.self.invariant.1
    among c.max-self-inside.ensures c.deref_mut-2.ensures.value (c.take_bad.auto.hosts ∙ c.deref_mut-2.ensures.len) c.take_bad.ensures.hosts in
    let opening = opening_after R (Bad c.args.host c.args.t) x _ c.self.invariant.1 next in
    opening.few_out

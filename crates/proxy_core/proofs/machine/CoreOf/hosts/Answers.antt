use Rattle.std.proofs.Common.{◌≡◌, ◌∙◌, ap, subst, arith, length}
use Rattle.ejector.specs.Settings.{IsInRange}
use Rattle.ejector.specs.Opening.{IsOpening}
use Rattle.ejector.proofs.CallerLemmas.{in_range}
use Rattle.proxy_history.specs.Setting.{hosts}
use Rattle.proxy_history.specs.Proxy.{Proxy}
use Rattle.proxy_core.specs.declared.machine.Machine.{Machine}
use Rattle.proxy_core.proofs.turn.Requirements.{asked_hosts}
use Rattle.proxy_core.proofs.machine.CoreOf.hosts.Goals as goal

pub returns-clause-hosts : goal.returns-clause-hosts
returns-clause-hosts g c =
    c.len.ensures
    ∙ ap (λ (m : Machine). length m.pipelines.states) c.deref.ensures
    ∙ asked_hosts c.self.inside.machine.value c.self.invariant.0
    ∙ ap (λ (k : Proxy). hosts k.setting) c.self.view_is

pub returns-clause-ring : goal.returns-clause-ring
returns-clause-ring g c =
    let m = c.self.inside.machine.value in
    c.len.ensures
    ∙ ap (λ (k : Machine). length k.pipelines.states) c.deref.ensures
    ∙ asked_hosts m c.self.invariant.0
    ∙ c.self.invariant.0.hosts
    ∙ ap (λ (k : Proxy). k.setting.ring.hosts) c.self.view_is

pub returns-clause-range : goal.returns-clause-range
returns-clause-range g c =
    subst (λ (k : Proxy). IsInRange k.setting.rules) c.self.view_is (in_range c.self.inside.machine.value.ejector.rules c.self.invariant.0.rules)

pub returns-clause-opening : goal.returns-clause-opening
returns-clause-opening g c =
    subst (λ (k : Proxy). IsOpening k.setting.rules k.setting.opening) c.self.view_is c.self.invariant.0.opening

pub returns-clause-few : goal.returns-clause-few
returns-clause-few g c =
    let m = c.self.inside.machine.value in
    let found = ap (λ (k : Machine). length k.pipelines.states) c.deref.ensures in
    let same : c.len.result ≡ m.ejector.rules.hosts = c.len.ensures ∙ found ∙ asked_hosts m c.self.invariant.0 in
    omega (arith, same, (in_range m.ejector.rules c.self.invariant.0.rules).few_hosts)

pub returns-clause-some : goal.returns-clause-some
returns-clause-some g c =
    let m = c.self.inside.machine.value in
    let found = ap (λ (k : Machine). length k.pipelines.states) c.deref.ensures in
    let same : c.len.result ≡ m.ejector.rules.hosts = c.len.ensures ∙ found ∙ asked_hosts m c.self.invariant.0 in
    omega (arith, same, (in_range m.ejector.rules c.self.invariant.0.rules).some_hosts)

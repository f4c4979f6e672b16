use Rattle.std.proofs.Common.{◌<◌, ◌∙◌, ap, sym, subst, arith, length}
use Rattle.proxy_history.specs.Setting.{hosts}
use Rattle.proxy_history.specs.Past.{past}
use Rattle.proxy_history.specs.Proxy.{Proxy, history_in}
use Rattle.proxy_history.specs.Waiting.{flying_count}
use Rattle.proxy_core.specs.Pipelines.{pipeline_at}
use Rattle.proxy_core.specs.declared.machine.Machine.{Machine}
use Rattle.proxy_core.proofs.turn.Requirements.{asked_hosts, flying_is}
use Rattle.proxy_core.proofs.machine.CoreOf.flying.Goals as goal

pub flying-requires : goal.flying-requires
flying-requires g c =
    let m = c.self.inside.machine.value in
    let same = ap (λ (k : Machine). length k.pipelines.states) c.deref.ensures in
    omega (arith, c.requires, same, asked_hosts m c.self.invariant.0, ap (λ (k : Proxy). hosts k.setting) c.self.view_is)

pub returns : goal.returns
returns g c =
    let m = c.self.inside.machine.value in
    c.flying.ensures
    ∙ ap (λ (k : Machine). length (pipeline_at c.args.host k.pipelines.states).flying) c.deref.ensures
    ∙ flying_is m c.args.host c.self.invariant.0 (subst (λ (k : Proxy). c.args.host < hosts k.setting) (sym c.self.view_is) c.requires)
    ∙ ap (λ (k : Proxy). flying_count c.args.host (past k.setting (history_in k))) c.self.view_is

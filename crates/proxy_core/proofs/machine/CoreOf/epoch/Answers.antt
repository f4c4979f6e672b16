use Rattle.std.proofs.Common.{◌<◌, ◌∙◌, ap, sym, subst, arith, length}
use Rattle.proxy_history.specs.Setting.{hosts}
use Rattle.proxy_history.specs.Proxy.{Proxy, history_in}
use Rattle.proxy_history.specs.History.{epoch}
use Rattle.proxy_core.specs.Pipelines.{pipeline_at}
use Rattle.proxy_core.specs.declared.machine.Machine.{Machine}
use Rattle.proxy_core.proofs.turn.Requirements.{asked_hosts, epoch_is}
use Rattle.proxy_core.proofs.machine.CoreOf.epoch.Goals as goal

pub epoch-requires : goal.epoch-requires
epoch-requires g c =
    let m = c.self.inside.machine.value in
    let same = ap (λ (k : Machine). length k.pipelines.states) c.deref.ensures in
    omega (arith, c.requires, same, asked_hosts m c.self.invariant.0, ap (λ (k : Proxy). hosts k.setting) c.self.view_is)

pub returns : goal.returns
returns g c =
    let m = c.self.inside.machine.value in
    c.epoch.ensures
    ∙ ap (λ (k : Machine). (pipeline_at c.args.host k.pipelines.states).epoch) c.deref.ensures
    ∙ epoch_is m c.args.host c.self.invariant.0 (subst (λ (k : Proxy). c.args.host < hosts k.setting) (sym c.self.view_is) c.requires)
    ∙ ap (λ (k : Proxy). epoch c.args.host (history_in k)) c.self.view_is

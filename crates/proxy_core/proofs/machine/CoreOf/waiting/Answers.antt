use Rattle.std.proofs.Common.{◌<◌, ◌∙◌, ap, sym, subst, arith, length}
use Rattle.proxy_history.specs.Setting.{hosts}
use Rattle.proxy_history.specs.Past.{past}
use Rattle.proxy_history.specs.Proxy.{Proxy, history_in}
use Rattle.proxy_history.specs.Waiting.{waiting_parts}
use Rattle.proxy_core.specs.Pipelines.{pipeline_at}
use Rattle.proxy_core.specs.declared.machine.Machine.{Machine}
use Rattle.proxy_core.proofs.turn.Requirements.{asked_hosts, waiting_is}
use Rattle.proxy_core.proofs.machine.CoreOf.waiting.Goals as goal

pub waiting-requires : goal.waiting-requires
waiting-requires g c =
    let m = c.self.inside.machine.value in
    let same = ap (λ (k : Machine). length k.pipelines.states) c.deref.ensures in
    omega (arith, c.requires, same, asked_hosts m c.self.invariant.0, ap (λ (k : Proxy). hosts k.setting) c.self.view_is)

pub returns : goal.returns
returns g c =
    let m = c.self.inside.machine.value in
    c.waiting.ensures
    ∙ ap (λ (k : Machine). length (pipeline_at c.args.host k.pipelines.states).waiting) c.deref.ensures
    ∙ waiting_is m c.args.host c.self.invariant.0 (subst (λ (k : Proxy). c.args.host < hosts k.setting) (sym c.self.view_is) c.requires)
    ∙ ap (λ (k : Proxy). length (waiting_parts c.args.host (past k.setting (history_in k)))) c.self.view_is

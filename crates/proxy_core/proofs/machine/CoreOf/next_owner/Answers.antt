use Rattle.std.proofs.Common.{◌<◌, ◌∙◌, ap, sym, subst, arith, length}
use Rattle.proxy_history.specs.Setting.{hosts}
use Rattle.proxy_history.specs.Past.{past}
use Rattle.proxy_history.specs.Proxy.{Proxy, history_in}
use Rattle.proxy_core.specs.Pipelines.{next_connection, pipeline_at, pipeline_of}
use Rattle.proxy_core.specs.declared.machine.Machine.{Machine}
use Rattle.proxy_core.proofs.turn.Requirements.{asked_hosts, next_connection_is}
use Rattle.proxy_core.proofs.machine.CoreOf.next_owner.Goals as goal

pub next_connection-requires : goal.next_connection-requires
next_connection-requires g c =
    let m = c.self.inside.machine.value in
    let same = ap (λ (k : Machine). length k.pipelines.states) c.deref.ensures in
    omega (arith, c.requires, same, asked_hosts m c.self.invariant.0, ap (λ (k : Proxy). hosts k.setting) c.self.view_is)

pub returns : goal.returns
returns g c =
    let m = c.self.inside.machine.value in
    c.next_connection.ensures
    ∙ ap (λ (k : Machine). next_connection (pipeline_at c.args.host k.pipelines.states).flying) c.deref.ensures
    ∙ next_connection_is m c.args.host c.self.invariant.0 (subst (λ (k : Proxy). c.args.host < hosts k.setting) (sym c.self.view_is) c.requires)
    ∙ ap (λ (k : Proxy). next_connection (pipeline_of (past k.setting (history_in k)) c.args.host).flying) c.self.view_is

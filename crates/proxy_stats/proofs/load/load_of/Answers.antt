use Rattle.std.proofs.Common.{◌≡◌, refl, arith}
use Rattle.std.proofs.lemmas.List.{get_or-replicate}
use Rattle.proxy_history.specs.Setting.{hosts}
use Rattle.proxy_history.specs.Proxy.{history_in}
use Rattle.proxy_stats.specs.Load.{no_load}
use Rattle.proxy_stats.proofs.LoadLemmas.{loads_are}
use Rattle.proxy_stats.proofs.load.load_of.Goals as goal

pub loop-host-init : goal.loop-host-init
loop-host-init g c =
    (refl, (λ h d within. absurd (omega (arith, within))), (λ h d past within. get_or-replicate 64 h no_load d within))

pub returns : goal.returns
returns g c =
    let k = c.args.core.now in
    let all : c.loop-host.host ≡ hosts k.setting = omega (arith, c.loop-host-test.false, c.loop-host.auto.host-end, c.hosts-host-end.ensures.hosts) in
    let (long, told, others) = c.loop-host.invariant in
    let loads = loads_are k.setting (history_in k) c.loop-host.host c.loop-host.hosts all long told others in
    λ i. record { connections = c.open_connections.ensures i; in_panic = c.in_panic.ensures i; hosts = loads i }

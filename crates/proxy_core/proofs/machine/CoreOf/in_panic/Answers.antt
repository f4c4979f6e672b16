use Rattle.std.proofs.Common.{ap, ◌∙◌}
use Rattle.ejector.specs.UsableHosts.{is_panic}
use Rattle.proxy_history.specs.Proxy.{Proxy}
use Rattle.proxy_core.specs.Core.{detector_state}
use Rattle.proxy_core.specs.declared.machine.Machine.{Machine}
use Rattle.proxy_core.proofs.turn.Requirements.{asked_detection}
use Rattle.proxy_core.proofs.machine.CoreOf.in_panic.Goals as goal

pub returns : goal.returns
returns g c =
    let m = c.self.inside.machine.value in
    c.in_panic.ensures
    ∙ ap (λ (z : Machine). is_panic z.ejector.rules z.ejector.state) c.deref.ensures
    ∙ ap (is_panic m.ejector.rules) (asked_detection m c.self.invariant.0)
    ∙ ap (λ (k : Proxy). is_panic k.setting.rules (detector_state k)) c.self.view_is

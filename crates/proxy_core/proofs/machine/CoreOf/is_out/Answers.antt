use Rattle.std.proofs.Common.{ap, ◌∙◌}
use Rattle.ejector.specs.State.{is_out}
use Rattle.proxy_history.specs.Proxy.{Proxy}
use Rattle.proxy_core.specs.Core.{detector_state}
use Rattle.proxy_core.specs.declared.machine.Machine.{Machine}
use Rattle.proxy_core.proofs.turn.Requirements.{asked_detection}
use Rattle.proxy_core.proofs.machine.CoreOf.is_out.Goals as goal

pub returns : goal.returns
returns g c =
    c.is_out.ensures
    ∙ ap (λ (m : Machine). is_out m.ejector.state c.args.host) c.deref.ensures
    ∙ ap (λ s. is_out s c.args.host) (asked_detection c.self.inside.machine.value c.self.invariant.0)
    ∙ ap (λ (k : Proxy). is_out (detector_state k) c.args.host) c.self.view_is

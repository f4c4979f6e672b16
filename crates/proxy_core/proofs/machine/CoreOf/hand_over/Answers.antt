use Rattle.std.proofs.Common.{ap, ◌∙◌, length}
use Rattle.ejector.specs.Ejector.{Ejection}
use Rattle.proxy_history.specs.Payload.{payload}
use Rattle.proxy_history.specs.Proxy.{Proxy, history_in}
use Rattle.proxy_core.specs.Core.{detector_state}
use Rattle.proxy_core.specs.Handover.{HandoverFacts}
use Rattle.proxy_core.specs.Memory.{Memory}
use Rattle.proxy_core.specs.declared.machine.Machine.{Machine}
use Rattle.proxy_core.proofs.turn.Requirements.{asked_detection}
use Rattle.proxy_core.proofs.machine.CoreOf.hand_over.Goals as goal

pub returns-clause-state : goal.returns-clause-state
returns-clause-state g c =
    ap (λ (h : HandoverFacts). h.detection.state) c.new.ensures
    ∙ ap (λ (e : Ejection). e.state) c.snapshot.ensures
    ∙ ap (λ (m : Machine). m.ejector.state) c.deref-2.ensures
    ∙ asked_detection c.self.inside.machine.value c.self.invariant.0
    ∙ ap detector_state c.self.view_is

pub returns-clause-steps : goal.returns-clause-steps
returns-clause-steps g c =
    ap (λ (h : HandoverFacts). h.steps) c.new.ensures
    ∙ c.len.ensures.steps
    ∙ ap (λ (m : Machine). length m.journal.steps) c.deref.ensures
    ∙ ap (λ (k : Proxy). length k.steps) c.self.view_is

pub returns-clause-bytes : goal.returns-clause-bytes
returns-clause-bytes g c =
    ap (λ (h : HandoverFacts). h.bytes) c.new.ensures
    ∙ c.bytes.ensures.bytes
    ∙ ap (λ (m : Machine). m.journal.bytes) c.deref.ensures
    ∙ ap (λ (z : Memory). z.bytes) c.self.invariant.0.memory
    ∙ ap (λ (k : Proxy). payload (history_in k)) c.self.view_is

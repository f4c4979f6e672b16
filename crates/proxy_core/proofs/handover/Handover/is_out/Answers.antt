use Rattle.std.proofs.Common.{ap, ◌∙◌}
use Rattle.ejector.specs.State.{is_out}
use Rattle.proxy_core.specs.Handover.{HandoverFacts}
use Rattle.proxy_core.proofs.handover.Handover.is_out.Goals as goal

pub returns : goal.returns
returns c = c.is_out.ensures ∙ ap (λ (h : HandoverFacts). is_out h.detection.state c.args.host) c.self.view_is

use Rattle.std.proofs.Common.{ap}
use Rattle.proxy_core.specs.Handover.{HandoverFacts}
use Rattle.proxy_core.proofs.handover.Handover.steps.Goals as goal

pub returns : goal.returns
returns c = ap (λ (h : HandoverFacts). h.steps) c.self.view_is

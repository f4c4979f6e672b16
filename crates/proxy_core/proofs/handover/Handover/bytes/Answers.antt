use Rattle.std.proofs.Common.{ap}
use Rattle.proxy_core.specs.Handover.{HandoverFacts}
use Rattle.proxy_core.proofs.handover.Handover.bytes.Goals as goal

pub returns : goal.returns
returns c = ap (λ (h : HandoverFacts). h.bytes) c.self.view_is

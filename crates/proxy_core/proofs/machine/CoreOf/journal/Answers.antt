use Rattle.std.proofs.Common.{◌∙◌, ap}
use Rattle.proxy_history.specs.Payload.{payload}
use Rattle.proxy_history.specs.Proxy.{Proxy, history_in}
use Rattle.proxy_core.specs.Memory.{Memory}
use Rattle.proxy_core.specs.declared.machine.Machine.{Machine}
use Rattle.proxy_core.proofs.machine.CoreOf.journal.Goals as goal

pub returns-clause-bytes : goal.returns-clause-bytes
returns-clause-bytes g c =
    ap (λ (m : Machine). m.journal.bytes) c.deref.ensures
    ∙ ap (λ (z : Memory). z.bytes) c.self.invariant.0.memory
    ∙ ap (λ (k : Proxy). payload (history_in k)) c.self.view_is

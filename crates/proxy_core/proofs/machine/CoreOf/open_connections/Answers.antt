use Rattle.std.proofs.Common.{◌-◌, ◌∙◌, ap, length}
use Rattle.proxy_history.specs.History.{openings, times, is_any_closing}
use Rattle.proxy_history.specs.Proxy.{Proxy, history_in}
use Rattle.proxy_core.specs.declared.machine.Machine.{Machine}
use Rattle.proxy_core.proofs.turn.Requirements.{open_is}
use Rattle.proxy_core.proofs.machine.CoreOf.open_connections.Goals as goal

pub returns : goal.returns
returns g c =
    c.open_count.ensures
    ∙ ap (λ (k : Machine). length k.connections.numbered - k.connections.closed) c.deref.ensures
    ∙ open_is c.self.inside.machine.value c.self.invariant.0
    ∙ ap (λ (k : Proxy). openings (history_in k) - times is_any_closing (history_in k)) c.self.view_is

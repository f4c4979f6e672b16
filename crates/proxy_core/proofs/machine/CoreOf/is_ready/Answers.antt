use Rattle.std.proofs.Common.{◌≡◌, ◌↔◌, ◌∙◌, Bool, None, ap, sym, subst}
use Rattle.std.specs.Prelude.{◌&&◌, is_some, IsTrue}
use Rattle.proxy_history.specs.History.{is_open}
use Rattle.proxy_history.specs.Past.{past}
use Rattle.proxy_history.specs.Cause.{is_ready, own_cause}
use Rattle.proxy_history.specs.Proxy.{Proxy, history_in}
use Rattle.proxy_history.specs.declared.event.Event.TheVariants.{Handed}
use Rattle.proxy_core.specs.Connections.{connection_at, reply_in}
use Rattle.proxy_core.specs.declared.machine.Machine.{Machine}
use Rattle.proxy_core.proofs.connections.ConnectionsOfLemmas.{own_cause-handed}
use Rattle.proxy_core.proofs.turn.Requirements.{reply_is}
use Rattle.proxy_core.proofs.machine.CoreOf.is_ready.Goals as goal

pub returns : goal.returns
returns g c =
    let k = c.args.self.now in
    let x = past k.setting (history_in k) in
    let ready : c.is_ready.result ≡ (is_open c.args.conn (history_in k) && is_ready c.args.conn x) =
    c.is_ready.ensures
    ∙ ap (λ (m : Machine). is_some (reply_in (connection_at c.args.conn m.connections.numbered))) c.deref.ensures
    ∙ reply_is c.self.inside.machine.value c.args.conn c.self.invariant.0
    ∙ ap (λ (p : Proxy). is_open c.args.conn (history_in p) && is_ready c.args.conn (past p.setting (history_in p))) c.self.view_is in
    record {
      ready = ready;
      handed = subst (λ (b : Bool). IsTrue b ↔ (own_cause k.setting x (Handed c.args.conn) ≡ None)) (sym ready)
          (own_cause-handed k.setting x c.args.conn);
    }

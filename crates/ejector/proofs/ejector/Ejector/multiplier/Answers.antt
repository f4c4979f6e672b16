use Rattle.std.proofs.Common.{◌<◌, length, sym, ap, ◌∙◌, subst}
use Rattle.std.proofs.lemmas.List.{get_or_read}
use Rattle.ejector.specs.declared.host.HostState.{HostState}
use Rattle.ejector.specs.Ejector.{Ejection}
use Rattle.ejector.specs.State.{host_of, fresh_host}
use Rattle.ejector.proofs.ejector.Ejector.multiplier.Goals as goal

pub returns : goal.returns
returns c =
    let hosts = c.self.inside.hosts.items in
    let among : c.args.host < length hosts =
    subst (λ n. c.args.host < n) (ap (λ (e : Ejection). e.rules.hosts) (sym c.self.view_is) ∙ sym c.self.invariant.1.hosts) c.requires in
    ap (λ (s : HostState). s.multiplier) (get_or_read hosts c.args.host _ among c.index.ensures fresh_host)
    ∙ ap (λ (e : Ejection). (host_of e.state c.args.host).multiplier) c.self.view_is

use Rattle.std.proofs.Common.{◌<◌, refl, true, false, map, length, ap, sym, subst, ◌∙◌, arith}
use Rattle.std.proofs.lemmas.List.{get_or-replicate, length-map, get_or-map}
use Rattle.std.proofs.lemmas.Option.{slice_get_read}
use Rattle.ketama.specs.Key.{point_of}
use Rattle.ketama.specs.Owner.{Owns, is_usable}
use Rattle.proxy_config.specs.declared.config.Host.{Host}
use Rattle.key_owners.specs.Owners.{IsOwnerName, Owners}
use Rattle.key_owners.proofs.owners.KeyOwners.owner.Goals as goal

pub unreachable-requires : goal.unreachable-requires
unreachable-requires c =
    let inv = c.self.invariant in
    let names = map (λ (h : Host). h.name) c.self.inside.config.hosts.items in
    let usable = ap (λ u. is_usable u inv.pair.1) (c.deref.ensures.value ∙ inv.all) ∙ get_or-replicate (length names) inv.pair.1 true false inv.within in
    c.in-None.ensures.owner inv.pair (record { member = inv.some; host_usable = usable })

pub returns : goal.returns
returns c =
    let inv = c.self.invariant in
    let hosts = c.self.inside.config.hosts.items in
    let f = λ (h : Host). h.name in
    let names = map f hosts in
    let host = c.in-Some.host in
    let pairs = c.self.inside.ring.pairs in
    let point = c.point_of_key-point.ensures.value in
    let within : host < length names = omega (arith, inv.hosts, c.in-Some.ensures.in_range) in
    let in_hosts : host < length hosts = omega (arith, within, length-map hosts f) in
    let same = c.as_bytes.ensures.value ∙ ap f c.index.ensures in
    subst (λ (o : Owners). IsOwnerName o c.args.key.now c.as_bytes.result.now) c.self.view_is (record {
      host = host;
      owns = subst (λ u. Owns pairs (point_of c.args.key.now c.self.inside.config.core.tags) u host) (c.deref.ensures.value ∙ inv.all)
          (subst (λ p. Owns pairs p c.deref.result.now host) point c.in-Some.ensures.owner);
      named = slice_get_read names (length names) host c.as_bytes.result.now refl within (same ∙ sym (get_or-map f hosts host c.index.result.now c.as_bytes.result.now in_hosts));
    })

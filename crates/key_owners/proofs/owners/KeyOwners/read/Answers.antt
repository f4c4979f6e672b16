use Rattle.std.proofs.Common.{◌≡◌, ◌≤◌, true, map, length, replicate, ap, ◌∙◌, arith}
use Rattle.std.proofs.lemmas.List.{length-map}
use Rattle.ketama.specs.Ketama.{AreWeights}
use Rattle.proxy_config.specs.declared.config.Host.{Host}
use Rattle.key_owners.proofs.PointLemmas.{ring_has_point}
use Rattle.key_owners.proofs.owners.KeyOwners.read.Goals as goal

pub invariant_of-result : goal.invariant_of-result
invariant_of-result c =
    let config = c.in_ok-config.config in
    let hosts = config.hosts.items in
    let names = map (λ (h : Host). h.name) hosts in
    let many : length names ≡ length hosts = length-map hosts (λ (h : Host). h.name) in
    let fit = c.in_ok-config.ensures.ok.fit in
    let some : 1 ≤ length names = omega (arith, many, fit.1.0.some) in
    let weighed : AreWeights (length names) config.weights.items = rw many c.in_ok-config.ensures.parts.weighed in
    let is = c.in_ok-ring.ensures.ok in
    let has = ring_has_point names config.weights.items c.in_ok-ring.ring some weighed is in
    let count : c.len.result ≡ length names = omega (arith, many, c.len.ensures) in
    let all = c.in_ok-usable.ensures.items_if_clones_equal (λ y same. same) ∙ ap (λ n. replicate n true) count in
    record { hosts = is.hosts; all = all; pair = has.pair; some = has.some; within = has.within }

use Rattle.std.proofs.Common.{◌≡◌, length, map, ap, ◌∙◌, arith, rules}
use Rattle.std.proofs.Math.Logic.{∥∥₁_elim}
use Rattle.std.proofs.lemmas.List.{map_more, take_all, length-map}
use Rattle.ketama.specs.Ketama.{AreWeights, HasSameName}
use Rattle.proxy_config.specs.declared.config.Host.{Host}
use Rattle.proxy_config.proofs.RingPartLemmas.{no_same_name}
use Rattle.proxy_config.proofs.config.Config.ring.Goals as goal

pub loop-host-preserved : goal.loop-host-preserved
loop-host-preserved c =
    let hosts = c.deref-host-items.result.now in
    let i = c.loop-host.host-index in
    let pushed = c.in_ok-push.ensures.items in
    rw (map_more (λ (h : Host). h.name) hosts i c.host-item.result c.loop-host-test.true, ← c.loop-host.invariant, ← c.host-item.is, ← c.in_ok-copy_of.ensures.ok) pushed

pub unreachable-requires : goal.unreachable-requires
unreachable-requires c =
    let hosts = c.args.self.now.hosts.items in
    let done = take_all c.loop-host.host-index c.deref-host-items.result.now c.loop-host-test.false in
    let names : c.deref.result.now ≡ map (λ (h : Host). h.name) hosts = c.deref.ensures.value ∙ c.loop-host.invariant ∙ ap (map (λ (h : Host). h.name)) (done ∙ c.deref-host-items.ensures.value) in
    let many : length c.deref.result.now ≡ length hosts = ap length names ∙ length-map hosts (λ (h : Host). h.name) in
    let none : ⊥ = ∥∥₁_elim c.args.self.now.parts (λ a b. absurd a) (λ parts.
    let distinct : ¬ HasSameName c.deref.result.now = rw names (no_same_name hosts parts.distinct) in
    let weighed : AreWeights (length c.deref.result.now) c.deref-2.result.now = rw (many, c.deref-2.ensures.value) parts.weighed in
    let good = c.build.ensures.good (omega (arith, many, parts.few)) weighed distinct in
    search (rules, good)) in
    absurd none

use Rattle.std.proofs.Common.{◌++◌, [], get_or, ap, sym, ◌∙◌}
use Rattle.std.proofs.lemmas.List.{get_or_read}
use Rattle.ketama.specs.Ketama.{host_pairs}
use Rattle.ketama.proofs.KetamaPairLemmas.{ring_pairs-none, ring_pairs-more}
use Rattle.ketama.proofs.point.unordered_pairs.Goals as goal

pub loop-host-init : goal.loop-host-init
loop-host-init c = c.in_ok-pairs.ensures.items ∙ sym (ring_pairs-none c.args.names.now c.args.counts.now)

pub loop-host-preserved : goal.loop-host-preserved
loop-host-preserved c =
    let names = c.args.names.now in
    let host = c.loop-host.host in
    let name = get_or_read names host c.index-names-host.result c.loop-host-test.true c.index-names-host.is [] in
    rw (ring_pairs-more names c.args.counts.now host, ← c.loop-host.invariant)
    (c.in_ok-push_host.ensures ∙ ap (λ name. c.loop-host.pairs.items ++ host_pairs name host (get_or c.args.counts.now host 0)) (c.as_bytes.ensures.value ∙ name))

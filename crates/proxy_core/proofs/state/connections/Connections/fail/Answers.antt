use Rattle.std.proofs.Common.{filter_map, sym, ap}
use Rattle.proxy_history.specs.Value.{upstream_failure}
use Rattle.proxy_core.specs.Connections.{ConnectionTable}
use Rattle.proxy_core.proofs.connections.AnsweredPartsLemmas.{first_awaited, later_awaited, answered_parts-append}
use Rattle.proxy_core.proofs.state.connections.Connections.fail.Goals as goal

pub fail_places-requires : goal.fail_places-requires
fail_places-requires c =
    rw (c.deref.ensures.value) (first_awaited (filter_map (λ o. o) c.args.lost.now.flying.items) c.args.lost.now.waiting.items upstream_failure c.args.self.now.numbered c.requires)

pub fail_parts-requires : goal.fail_parts-requires
fail_parts-requires c =
    rw (c.deref-2.ensures.value, c.fail_places.ensures, c.deref.ensures.value)
    (later_awaited (filter_map (λ o. o) c.args.lost.now.flying.items) c.args.lost.now.waiting.items upstream_failure c.args.self.now.numbered c.requires)

pub returns : goal.returns
returns c =
    rw (c.fail_parts.ensures, c.deref-2.ensures.value, c.fail_places.ensures, c.deref.ensures.value)
    (ap (λ ks. let t : ConnectionTable = record { numbered = ks; closed = c.args.self.now.closed } in t)
    (sym (answered_parts-append (filter_map (λ o. o) c.args.lost.now.flying.items) c.args.lost.now.waiting.items upstream_failure c.args.self.now.numbered)))

use Rattle.std.proofs.Common.{slice_set, ap, ◌∙◌, sym, arith}
use Rattle.std.specs.Option.{option_map}
use Rattle.list_lemmas.proofs.CallerLemmas.{slice_set-changed, changed_at-past}
use Rattle.proxy_core.specs.Connections.{ConnectionTable, connection_without_front}
use Rattle.proxy_core.proofs.state.connections.Connections.hand.Goals as goal

pub returns-then-place-len : goal.returns-then-place-len
returns-then-place-len c =
    rw (← c.self.view_is) (ap (λ ks. let t : ConnectionTable = record { numbered = ks; closed = c.self.inside.closed } in t)
    (ap (slice_set c.self.inside.numbered.items c.args.conn) (c.hand_one.ensures ∙ ap (option_map connection_without_front) c.index_mut.ensures.value)
    ∙ slice_set-changed (option_map connection_without_front) c.args.conn _ _))

pub returns-else-place-len : goal.returns-else-place-len
returns-else-place-len c =
    rw (← c.self.view_is) (ap (λ ks. let t : ConnectionTable = record { numbered = ks; closed = c.self.inside.closed } in t)
    (sym (changed_at-past (option_map connection_without_front) c.args.conn c.self.inside.numbered.items
    (omega (arith, c.if-place-len.false, c.len.ensures, c.self.inside.numbered.ok.0)))))

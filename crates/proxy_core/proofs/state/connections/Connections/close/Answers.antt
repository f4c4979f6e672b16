use Rattle.std.proofs.Common.{None, ◌+◌, slice_set, ap, ◌∙◌, sym, arith}
use Rattle.list_lemmas.proofs.CallerLemmas.{changed_at-past, slice_set-constant}
use Rattle.proxy_core.specs.Connections.{ConnectionTable}
use Rattle.proxy_core.proofs.state.connections.Connections.close.Goals as goal

pub returns-then-place-len : goal.returns-then-place-len
returns-then-place-len c =
    rw (← c.self.view_is) (ap (λ ks. let t : ConnectionTable = record { numbered = ks; closed = c.self.inside.closed + 1 } in t)
    (ap (slice_set c.self.inside.numbered.items c.args.conn) c.close_one.ensures ∙ slice_set-constant None c.args.conn c.self.inside.numbered.items))

pub returns-else-place-len : goal.returns-else-place-len
returns-else-place-len c =
    rw (← c.self.view_is) (ap (λ ks. let t : ConnectionTable = record { numbered = ks; closed = c.self.inside.closed + 1 } in t)
    (sym (changed_at-past (λ k. None) c.args.conn c.self.inside.numbered.items
    (omega (arith, c.if-place-len.false, c.len.ensures, c.self.inside.numbered.ok.0)))))

use Rattle.std.proofs.Common.{Option, slice_set, ap, ◌∙◌, arith}
use Rattle.std.specs.Option.{option_and_then, option_map}
use Rattle.list_lemmas.proofs.CallerLemmas.{slice_set-changed}
use Rattle.resp_core.specs.Value.{tree_of}
use Rattle.proxy_core.specs.Connections.{ConnectionTable, connection_at, with_answer}
use Rattle.proxy_core.specs.declared.state.connection.Connection.{Connection}
use Rattle.proxy_core.proofs.connections.ConnectionAtLemmas.{connection_at-inside}
use Rattle.proxy_core.proofs.state.connections.Connections.answer_part.Goals as goal

pub returns : goal.returns
returns c =
    let change = option_map (with_answer c.args.owner (tree_of c.args.value)) in
    rw (← c.self.view_is) (ap (λ ks. let t : ConnectionTable = record { numbered = ks; closed = c.self.inside.closed } in t)
    (ap (slice_set c.self.inside.numbered.items c.args.owner.conn) (c.answer_one.ensures ∙ ap change c.index_mut.ensures.value)
    ∙ slice_set-changed change c.args.owner.conn _ _))

pub index_mut-requires : goal.index_mut-requires
index_mut-requires c =
    let found = ap (λ (t : ConnectionTable). connection_at c.args.owner.conn t.numbered) c.self.view_is
    ∙ ap (λ (o : Option (Option Connection)). option_and_then (λ k. k) o) c.requires.is_open in
    omega (arith, c.self.inside.numbered.ok.0, connection_at-inside c.self.inside.numbered.items c.args.owner.conn _ found)

use Rattle.std.proofs.Common.{map, slice_set, false, ap, ◌∙◌, arith}
use Rattle.std.specs.Option.{option_map}
use Rattle.std.proofs.lemmas.Result.{IfOk-weaker, IfErr-weaker, on_ok_weaker}
use Rattle.list_lemmas.proofs.CallerLemmas.{slice_set-changed}
use Rattle.proxy_core.specs.Places.{value_of_placed}
use Rattle.proxy_core.specs.Connections.{ConnectionTable, connection_at, connection_with_command, next_index}
use Rattle.proxy_core.proofs.connections.ConnectionAtLemmas.{connection_at-inside, connection_at-place, slice_set-same}
use Rattle.proxy_core.proofs.state.connections.Connections.enqueue.Goals as goal

pub returns-clause-accepted : goal.returns-clause-accepted
returns-clause-accepted c =
    let change = option_map (connection_with_command (record { how = c.args.how; values = map value_of_placed c.args.placed.now }) false) in
    on_ok_weaker c.accept_one.result
    (λ e. rw (← c.self.view_is) (ap (λ ks. let t : ConnectionTable = record { numbered = ks; closed = c.self.inside.closed } in t)
    (ap (slice_set c.self.inside.numbered.items c.args.conn) (e ∙ ap change c.index_mut.ensures.value) ∙ slice_set-changed change c.args.conn _ _)))
    c.accept_one.ensures.accepted

pub index_mut-requires : goal.index_mut-requires
index_mut-requires c =
    let found = ap (λ (t : ConnectionTable). connection_at c.args.conn t.numbered) c.self.view_is ∙ c.requires.open.is_open in
    omega (arith, c.self.inside.numbered.ok.0, connection_at-inside c.self.inside.numbered.items c.args.conn _ found)

pub accept_one-requires-clause-open : goal.accept_one-requires-clause-open
accept_one-requires-clause-open c =
    let found = ap (λ (t : ConnectionTable). connection_at c.args.conn t.numbered) c.self.view_is ∙ c.requires.open.is_open in
    record { connection = c.requires.open.connection; is_open = c.index_mut.ensures.value ∙ connection_at-place _ c.args.conn _ (connection_at-inside _ c.args.conn _ found) ∙ found; left = c.requires.open.left; index = c.requires.open.index }

pub returns-clause-index : goal.returns-clause-index
returns-clause-index c =
    let seen = ap (λ (t : ConnectionTable). connection_at c.args.conn t.numbered) c.self.view_is in
    let place = c.index_mut.ensures.value ∙ connection_at-place _ c.args.conn _ (connection_at-inside _ c.args.conn _ (seen ∙ c.requires.open.is_open)) ∙ seen in
    IfOk-weaker c.accept_one.result _ _ (λ i is. is ∙ ap next_index place) c.accept_one.ensures.index

pub returns-clause-refused : goal.returns-clause-refused
returns-clause-refused c =
    IfErr-weaker c.accept_one.result _ _
    (λ r is. (
      is.0,
      ap (λ ks. let t : ConnectionTable = record { numbered = ks; closed = c.self.inside.closed } in t)
          (slice_set-same c.self.inside.numbered.items c.args.conn _ _ (is.1 ∙ c.index_mut.ensures.value)) ∙ c.self.view_is,
    ))
    c.accept_one.ensures.refused

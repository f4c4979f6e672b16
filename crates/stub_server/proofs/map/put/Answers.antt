use Rattle.std.proofs.Common.{position, sym, ap, ◌∙◌}
use Rattle.stub_server.specs.Map.{is_of}
use Rattle.stub_server.proofs.MapLemmas.{position-place, replaced, added}
use Rattle.stub_server.proofs.map.put.Goals as goal

pub returns-in-Some-clause-ok : goal.returns-in-Some-clause-ok
returns-in-Some-clause-ok c =
    let items = c.args.entries.now.items in
    let at = ap (λ z. position (is_of z) items) (sym c.as_slice.ensures) ∙ ap (position (is_of c.as_slice.result.now)) (sym c.deref.ensures.value) ∙ sym c.in-Some.ensures in
    let f = position-place (is_of c.args.key) items c.in-Some.at at in
    replaced c.args.key c.args.value items c.in-Some.at c.index_mut.result.now f.0 f.1 c.index_mut.ensures.value

pub returns-in_ok-push-in-None-clause-ok : goal.returns-in_ok-push-in-None-clause-ok
returns-in_ok-push-in-None-clause-ok c =
    let items = c.args.entries.now.items in
    let at = ap (λ z. position (is_of z) items) (sym c.as_slice.ensures) ∙ ap (position (is_of c.as_slice.result.now)) (sym c.deref.ensures.value) ∙ sym c.in-None.ensures in
    c.in_ok-push-in-None.ensures.items ∙ added c.args.key c.args.value items at

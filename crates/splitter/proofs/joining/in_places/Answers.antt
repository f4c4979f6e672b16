use Rattle.std.proofs.Common.{◌++◌, map, append-nil, sym, ap, ◌∙◌}
use Rattle.std.proofs.lemmas.List.{drop_all}
use Rattle.resp_core.specs.Value.{tree_of}
use Rattle.splitter.specs.Join.{in_place}
use Rattle.splitter.proofs.joining.in_places.Goals as goal

pub returns-clause-values : goal.returns-clause-values
returns-clause-values c =
    let placed = map tree_of c.loop-value.places.items in
    sym (append-nil placed)
    ∙ ap (λ left. placed ++ map in_place (map tree_of left)) (sym (drop_all c.loop-value.value-index c.args.values.now c.loop-value-test.false))
    ∙ c.loop-value.invariant

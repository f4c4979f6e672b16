use Rattle.std.proofs.Common.{◌≡◌, ◌+◌, get_or, drop, filter_map, Option, Some, None, refl, ◌∙◌, List, ◌∷◌}
use Rattle.std.proofs.lemmas.List.{drop_more}
use Rattle.std.proofs.Math.ListN.{drop_of_length-le}
use Rattle.upstream_pipe.specs.declared.part.Owner.{Owner}
use Rattle.list_lemmas.specs.Lists.{list_of}
use Rattle.proxy_history.specs.Value.{upstream_failure}
use Rattle.proxy_core.specs.declared.state.connection.Connection.{Connection}
use Rattle.proxy_core.specs.Connections.{AreAwaited, answered_parts}
use Rattle.proxy_core.proofs.state.connections.Connections.fail_places.Goals as goal

first_awaited : (o : Option Owner) (os : List (Option Owner)) (ks : List (Option Connection)) → AreAwaited (filter_map (λ o. o) (o ∷ os)) upstream_failure ks → AreAwaited (list_of o) upstream_failure ks
first_awaited None os ks a = tt
first_awaited (Some o) os ks a = (a.0, tt)

rest_awaited : (o : Option Owner) (os : List (Option Owner)) (ks : List (Option Connection)) → AreAwaited (filter_map (λ o. o) (o ∷ os)) upstream_failure ks
    → AreAwaited (filter_map (λ o. o) os) upstream_failure (answered_parts (list_of o) upstream_failure ks)
rest_awaited None os ks a = a
rest_awaited (Some o) os ks a = a.1

rest_answered : (o : Option Owner) (os : List (Option Owner)) (ks : List (Option Connection)) →
    answered_parts (filter_map (λ o. o) os) upstream_failure (answered_parts (list_of o) upstream_failure ks) ≡ answered_parts (filter_map (λ o. o) (o ∷ os)) upstream_failure ks
rest_answered None os ks = refl
rest_answered (Some o) os ks = refl

pub loop-place-init : goal.loop-place-init
loop-place-init c = record { awaited = c.requires; answered = refl; closed = refl }

pub answer-requires : goal.answer-requires
answer-requires c =
    let a = rw (drop_more c.args.places.now c.loop-place.place-index None c.loop-place-test.true) at c.loop-place.invariant.awaited in
    rw (c.upstream_failure.ensures) (first_awaited (get_or c.args.places.now c.loop-place.place-index None) (drop (c.loop-place.place-index + 1) c.args.places.now) c.loop-place.self.numbered a)

pub loop-place-preserved : goal.loop-place-preserved
loop-place-preserved c =
    let a = rw (drop_more c.args.places.now c.loop-place.place-index None c.loop-place-test.true) at c.loop-place.invariant.awaited in
    let b = rw (drop_more c.args.places.now c.loop-place.place-index None c.loop-place-test.true) at c.loop-place.invariant.answered in
    rw (c.answer.ensures, c.upstream_failure.ensures) (record { awaited = rest_awaited (get_or c.args.places.now c.loop-place.place-index None) (drop (c.loop-place.place-index + 1) c.args.places.now) c.loop-place.self.numbered a; answered = rest_answered (get_or c.args.places.now c.loop-place.place-index None) (drop (c.loop-place.place-index + 1) c.args.places.now) c.loop-place.self.numbered ∙ b; closed = c.loop-place.invariant.closed })

pub returns : goal.returns
returns c =
    let b = rw (drop_of_length-le c.args.places.now c.loop-place-test.false) at c.loop-place.invariant.answered in
    λ i. record { numbered = b i; closed = c.loop-place.invariant.closed i }

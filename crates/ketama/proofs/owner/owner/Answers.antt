use Rattle.std.proofs.Common.{ℕ, None, Some, subst}
use Rattle.std.proofs.lemmas.List.{take_rest}
use Rattle.ketama.specs.Owner.{IsLeastIfAny, IsUsablePair}
use Rattle.ketama.proofs.SortedPairLemmas.{from_place, owner_from, owner_past}
use Rattle.ketama.proofs.owner.owner.Goals as goal

pub returns-in-Some : goal.returns-in-Some
returns-in-Some c =
    let pairs = c.args.pairs.now in
    let place = c.count_below-from.result in
    let pair : ℕ × ℕ = (c.in-Some.field-0-0, c.in-Some.host) in
    owner_from pairs c.args.point c.args.usable.now pair (from_place pairs c.args.point place c.args.usable.now (Some pair) c.count_below-from.ensures.parted
    (subst (λ xs. IsLeastIfAny (IsUsablePair xs c.args.usable.now) (Some pair)) (take_rest pairs place) c.in-Some.ensures))

pub returns : goal.returns
returns c =
    let pairs = c.args.pairs.now in
    let place = c.count_below-from.result in
    let pair : ℕ × ℕ = (c.in_ok-host.field-0-0, c.in_ok-host.host) in
    owner_past pairs c.args.point c.args.usable.now pair (from_place pairs c.args.point place c.args.usable.now None c.count_below-from.ensures.parted
    (subst (λ xs. IsLeastIfAny (IsUsablePair xs c.args.usable.now) None) (take_rest pairs place) c.in_default.ensures))
    c.in_ok-host.ensures

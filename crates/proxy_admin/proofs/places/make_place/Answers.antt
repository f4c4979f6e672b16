use Rattle.std.proofs.Common.{sym, ap, ◌∙◌, subst, inl, inr, arith}
use Rattle.std.proofs.lemmas.Bool.{cases_eq}
use Rattle.slab.specs.Slab.{get}
use Rattle.proxy_admin.specs.Visits.{IsOldest}
use Rattle.proxy_admin.proofs.PlaceLemmas.{nobody_counts}
use Rattle.proxy_admin.proofs.places.make_place.Goals as goal

pub returns-in-Some-clause-oldest : goal.returns-in-Some-clause-oldest
returns-in-Some-clause-oldest c = λ key. elim (cases_eq key c.in-Some.key) [
  | inl same ↦ inr (
    subst (IsOldest c.args.visitors.now) (sym same) (c.in-Some.ensures.oldest),
    ap (get c.try_remove.new.self) same ∙ c.try_remove.ensures.updates.changed,
  )
  | inr other ↦ inl (c.try_remove.ensures.updates.others key other)
]

pub returns-in_default-clause-free : goal.returns-in_default-clause-free
returns-in_default-clause-free c = λ few.
    let none = nobody_counts c.args.visitors.now c.in_default.ensures.nobody in
    omega (arith, none)

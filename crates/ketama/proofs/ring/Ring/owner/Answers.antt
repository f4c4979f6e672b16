use Rattle.std.proofs.Common.{ap, subst, ◌∙◌}
use Rattle.ketama.specs.Owner.{IsOwner}
use Rattle.ketama.specs.Continuum.{Continuum}
use Rattle.ketama.proofs.OwnerLemmas.{owner_of-unique, IsOwner-usable}
use Rattle.ketama.proofs.ring.Ring.owner.Goals as goal

pub returns-clause-owner : goal.returns-clause-owner
returns-clause-owner c =
    let same = c.deref.ensures.value ∙ ap (λ (r : Continuum). r.pairs) c.self.view_is in
    subst (λ pairs. IsOwner pairs c.args.point c.args.usable.now c.owner.result) same c.owner.ensures

pub returns-clause-value : goal.returns-clause-value
returns-clause-value c =
    owner_of-unique c.args.self.now.pairs c.args.point c.args.usable.now c.owner.result (
    let same = c.deref.ensures.value ∙ ap (λ (r : Continuum). r.pairs) c.self.view_is in
    subst (λ pairs. IsOwner pairs c.args.point c.args.usable.now c.owner.result) same c.owner.ensures)

pub returns-clause-usable : goal.returns-clause-usable
returns-clause-usable c = IsOwner-usable c.deref.result.now c.args.point c.args.usable.now c.owner.result c.owner.ensures

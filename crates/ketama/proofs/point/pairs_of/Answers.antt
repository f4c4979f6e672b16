use Rattle.std.proofs.Common.{sym, subst, Contains}
use Rattle.ketama.proofs.KetamaPairLemmas.{ring_pairs-IsKetamaPair}
use Rattle.ketama.proofs.point.pairs_of.Goals as goal

pub returns-clause-members : goal.returns-clause-members
returns-clause-members c pair =
    let there = ring_pairs-IsKetamaPair c.args.names.now c.args.counts.now pair in
    let same = c.put_in_order.ensures.members pair in (
      (λ h. there.0 (subst (λ pairs. Contains pairs pair) c.in_ok-pairs.ensures (same.0 h))),
      λ h. same.1 (subst (λ pairs. Contains pairs pair) (sym c.in_ok-pairs.ensures) (there.1 h)),
    )

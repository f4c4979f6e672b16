use Rattle.std.proofs.Common.{ℕ, ◌↔◌, Contains, refl, ◌∙◌, ap, subst, arith, rules}
use Rattle.std.specs.List.{sum}
use Rattle.ketama.specs.Ketama.{IsKetamaPair}
use Rattle.ketama.proofs.KetamaPairLemmas.{IsKetamaPair-in_range}
use Rattle.ketama.proofs.ring.Ring.build.Goals as goal

pub invariant_of-result : goal.invariant_of-result
invariant_of-result c = record {
  few = omega arith;
  in_range = IsKetamaPair-in_range c.args.names.now _ _ c.in_ok-pairs.ensures.members;
  in_order = c.in_ok-pairs.ensures.in_order;
}

pub returns-clause-ok : goal.returns-clause-ok
returns-clause-ok c =
    let counts = c.deref.ensures.value ∙ c.in_ok-counts.ensures.value in
    record {
      hosts = refl;
      digests = c.sum.ensures ∙ ap (λ xs. sum xs) (c.deref-2.ensures.value ∙ c.in_ok-counts.ensures.value);
      pairs = subst (λ counts. (pair : ℕ × ℕ) → Contains c.in_ok-pairs.pairs.items pair ↔ IsKetamaPair c.args.names.now counts pair) counts c.in_ok-pairs.ensures.members;
    }

pub returns-in_err-counts-clause-same_name : goal.returns-in_err-counts-clause-same_name
returns-in_err-counts-clause-same_name c = search rules

pub returns-in_err-pairs-clause-same_name : goal.returns-in_err-pairs-clause-same_name
returns-in_err-pairs-clause-same_name c = search rules

pub returns-clause-same_name : goal.returns-clause-same_name
returns-clause-same_name c = search rules

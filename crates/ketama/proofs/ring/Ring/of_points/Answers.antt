use Rattle.std.proofs.Common.{◌↔◌, Contains, refl, subst, arith}
use Rattle.std.proofs.lemmas.Bool.{iff_false}
use Rattle.ketama.proofs.KetamaPairLemmas.{no_bad_point}
use Rattle.ketama.proofs.ring.Ring.of_points.Goals as goal

pub invariant_of-result : goal.invariant_of-result
invariant_of-result c = record {
  few = omega arith;
  in_range = no_bad_point c.args.hosts c.args.points.now c.put_in_order.new.pairs.items (iff_false c.has_bad_point.ensures c.if-has_bad_point.false)
      (λ pair h. subst (λ pairs. Contains pairs pair) c.in_ok-pairs.ensures.items ((c.put_in_order.ensures.members pair).0 h));
  in_order = c.put_in_order.ensures.in_order;
}

pub returns-clause-ok : goal.returns-clause-ok
returns-clause-ok c = record {
  hosts = refl;
  digests = refl;
  pairs = λ pair. subst (λ points. Contains c.put_in_order.new.pairs.items pair ↔ Contains points pair) c.in_ok-pairs.ensures.items (c.put_in_order.ensures.members pair);
}
